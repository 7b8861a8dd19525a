-- What is read within any room is read alike as far as a token.
use Rattle.std.proofs.Common.{◌≡◌, ℕ, zero, suc, ◌+◌, ◌<◌, ◌≤◌, Bool, true, List, [], ◌∷◌, ◌++◌, length, Err, refl, ap, subst, arith, length-append}
use Rattle.std.specs.Prelude.{nat_lt}
use Rattle.std.proofs.lemmas.Bool.{ltb-true, lt-ltb}
use Rattle.c_tree.specs.declared.height.Heights.{Heights}
use Rattle.c_tree.specs.Heights as class
use Rattle.c_tree.specs.Heights.{sum, is_below}
use Rattle.c_decl.specs.declared.fault.Halt.TheVariants.{Syntax}
use Rattle.c_decl.specs.declared.kind.Mode.{Mode}
use Rattle.c_decl.specs.declared.kind.Mode.TheVariants.{Whole}
use Rattle.c_decl.specs.Tokens.{Token}
use Rattle.c_decl.specs.State.{State}
use Rattle.c_decl.specs.Input.{Outcome}
use Rattle.c_decl.specs.Entries as e
use Rattle.c_decl.specs.Entries.{Entry, class_of}
use Rattle.c_decl.specs.Statements.{unit}
use Rattle.c_decl.specs.Reading as r
use Rattle.c_decl.proofs.Runs.{at, refused}
use Rattle.c_decl.proofs.Room.{sum_lower}
use Rattle.c_decl.proofs.Steady.{Fork, Steady, Alike, both, halted, beyond, Passes, first, pure_steady, refuse_steady, if_steady}
use Rattle.c_decl.proofs.Parts.{Parts}
use Rattle.c_decl.proofs.LocalDeclarators.{spanned, enclosed, declarator_rule, direct_rule}
use Rattle.c_decl.proofs.LocalExpressions.{comma_rule, assignment_rule, conditional_rule, cast_rule, unary_rule, init_rule, binary_rule, name_taken, paren_taken}
use Rattle.c_decl.proofs.LocalStatements as s

count_expression : (room : Heights) → 0 < room.expression → 0 < class.count class.expression room
unfolding class.count
count_expression room some = some

none_left : (room : Heights) → 0 < room.expression → sum room ≤ 0 → ⊥
unfolding sum
none_left room some few = absurd
    (let le : room.expression + room.declarator + room.initializer + room.statement + room.members ≤ 0 = few in omega arith)

-- statements lower no room but their own
expression_stays : (room : Heights) → 0 < room.expression → 0 < (class.lower class.statement room).expression
unfolding class.lower
expression_stays room some = some

module _ (F : Fork) (mode : Mode) where
  -- the parts within a room whose sum is at most n
  abbrev Reads : ℕ → Type 0
  Reads n = (room : Heights) → sum room ≤ n → Parts F (r.reader mode n room) room

  nothing_read : Reads 0
  unfolding r.reader
  nothing_read room few = record {
    comma = refuse_steady;
    assignment = refuse_steady;
    conditional = refuse_steady;
    cast = refuse_steady;
    unary = refuse_steady;
    init = refuse_steady;
    members = refuse_steady;
    binary = λ n. refuse_steady;
    span = λ inside. refuse_steady;
    declarator = λ kind typed. refuse_steady;
    direct = λ kind typed. refuse_steady;
    statement = λ some. refuse_steady;
    behind_label = λ some a n. refuse_steady;
    block = λ some. refuse_steady;
    names = λ k p rest S is some. absurd (none_left room some few);
    parens = λ p rest S some. absurd (none_left room some few);
  }

  fewer : (n : ℕ) (c : class.Class) (room : Heights) → 0 < class.count c room → sum room ≤ suc n → sum (class.lower c room) ≤ n
  fewer n c room some few = omega (arith, sum_lower c room some)

  module _ (n : ℕ) (reads : Reads n) (room : Heights) (few : sum room ≤ suc n) where
    abbrev low : class.Class → Heights
    low c = class.lower c room

    layered : {b : Bool} (c : Entry) → (Parts F (r.reader mode n (low (class_of c))) (low (class_of c))
        → Steady F b (r.layer mode (r.reader mode n (low (class_of c))) (low (class_of c)) c)) → Steady F b (r.reader mode (suc n) room c)
    unfolding r.reader
    layered c rule = if_steady (nat_lt 0 (class.count (class_of c) room))
        (λ on. rule (reads (low (class_of c)) (fewer n (class_of c) room (ltb-true 0 _ on) few))) (λ _. refuse_steady)

    one_more : Parts F (r.reader mode (suc n) room) room
    unfolding r.reader
    one_more = record {
      comma = layered e.comma λ parts. comma_rule F mode _ _ parts;
      assignment = layered e.assignment λ parts. assignment_rule F mode _ _ parts;
      conditional = layered e.conditional λ parts. conditional_rule F mode _ _ parts;
      cast = layered e.cast λ parts. cast_rule F mode _ _ parts;
      unary = layered e.unary λ parts. unary_rule F mode _ _ parts;
      init = layered e.init λ parts. init_rule F mode _ _ parts;
      binary = λ k. layered (e.binary k) λ parts. binary_rule F mode _ _ parts (k + 1);
      span = λ inside. layered (e.span inside) λ parts. spanned F mode _ _ parts inside;
      members = layered e.members λ parts. enclosed F mode _ _ parts;
      declarator = λ kind typed. layered (e.declarator kind typed) λ parts. declarator_rule F mode _ _ parts kind typed;
      direct = λ kind typed. layered (e.direct kind typed) λ parts. direct_rule F mode _ _ parts kind typed;
      statement = λ some. layered e.statement λ parts. s.statement_rule F mode _ _ parts (expression_stays room some);
      behind_label = λ some a n. layered (e.behind_label a n) λ parts. s.colon_rule F mode _ _ parts (expression_stays room some) a n;
      block = λ some. layered e.block λ parts. s.braced F mode _ _ parts (expression_stays room some);
      names = λ k p rest S is some. let on = count_expression room some in
          rw (lt-ltb 0 _ on) (name_taken F mode _ _ (reads (low class.expression) (fewer n class.expression room on few)) k p rest S is);
      parens = λ p rest S some. let on = count_expression room some in
          rw (lt-ltb 0 _ on) (paren_taken F mode _ _ (reads (low class.expression) (fewer n class.expression room on few)) p rest S);
    }

  -- what is read is read alike up to the token, if the number is large enough
  pub parts_steady : (n : ℕ) (room : Heights) → sum room ≤ n → Parts F (r.reader mode n room) room
  parts_steady zero = nothing_read
  parts_steady (suc n) = one_more n (parts_steady n)

  pub unit_steady : (n : ℕ) (room : Heights) → sum room ≤ n → 0 < room.expression → Steady F true (unit mode (r.reader mode n room) room)
  unit_steady n room few some = s.unit F mode (r.reader mode n room) room (parts_steady n room few) some

pub parse_steady : (F : Fork) (room : Heights) → 0 < room.expression → Steady F true (r.parse room)
unfolding r.parse r.ended r.read
parse_steady F room some = first (unit_steady F Whole (sum room) room (omega arith) some) λ x. if_steady (is_below x.height room)
    (λ _. pure_steady x) (λ _. refuse_steady)

-- ---- what is refused at a token is refused there, whatever follows

abbrev place_of : {A : Type 0} → Outcome A → ℕ
place_of (Err (Syntax k)) = k
place_of _ = 0

at_err : {A : Type 0} (n : ℕ) → Passes {A = A} n (Err (Syntax (suc n))) → ⊥
at_err n (refused q) = absurd (let le : suc n ≤ n = q in omega arith)

pub refused_there : {A : Type 0} (F : Fork) {o o' : Outcome A} → Alike F o o' → o ≡ Err (Syntax (length (F.token ∷ F.more)))
    → o' ≡ Err (Syntax (length (F.token ∷ F.more')))
refused_there F (both a mid S) e = absurd cc
refused_there F (halted []) e = refl
refused_there F (halted (x ∷ mid)) e = absurd (let l : length (x ∷ (mid ++ F.token ∷ F.more))
    ≡ length (F.token ∷ F.more) = ap place_of e in omega (arith, simp length-append at l))
refused_there F (beyond o o' p) e = absurd (at_err (length F.more) (subst (λ (z : Outcome _). Passes (length F.more) z) e p))

pub parse_same : (room : Heights) (S : State) (seen : List Token) (t : Token) (more more' : List Token) → 0 < room.expression
    → r.parse room (at (seen ++ t ∷ more) S) ≡ Err (Syntax (length (t ∷ more))) → r.parse room (at (seen ++ t ∷ more') S)
    ≡ Err (Syntax (length (t ∷ more')))
parse_same room S seen t more more' some e = let F : Fork = record { token = t; more = more; more' = more' } in refused_there F
    ((parse_steady F room some).local seen S) e
