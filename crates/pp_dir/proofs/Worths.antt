-- Worths of expressions by the worths of their parts, and what reading comes to by worths.
use Rattle.std.proofs.Common.{◌≡◌, ℕ, zero, suc, ◌+◌, ◌-◌, ◌<◌, false, List, ◌∷◌, Option, Some, None, refl, sym, ap, subst, ◌∙◌, arith}
use Rattle.std.specs.Prelude.{max, option_and_then, codes}
use Rattle.std.proofs.lemmas.Option.{same_Some}
use Rattle.pp_tok.specs.declared.token.PpTok.{PpTok}
use Rattle.pp_dir.specs.declared.operator.UnaryOp.{UnaryOp}
use Rattle.pp_dir.specs.declared.operator.BinaryOp.{BinaryOp}
use Rattle.pp_macro.specs.Tokens.{is_mark}
use Rattle.pp_dir.specs.declared.part.Part.{Part}
use Rattle.pp_dir.specs.declared.part.Part.TheVariants.{Operand, Whole}
use Rattle.pp_dir.specs.declared.value.Value.{Value}
use Rattle.pp_dir.specs.declared.worth.Worth.{Worth}
use Rattle.pp_dir.specs.Tree.{Expr, Constant, Grouped, Unary, Binary, Choice, depth_of, is_unsigned, word_of}
use Rattle.pp_dir.specs.Reading.{Found, behind, choice_at, grouped_at, operand_at, ranked_op, chain, ranked, tail_of, whole_at, part_at, part, value_of, unary_op}
use Rattle.pp_dir.specs.Worth.{cut, worth_of, constant_worth, grouped_worth, unary_worth, binary_worth, choice_worth, worth_read, Reads}

cut_one : (a : ℕ) → cut (1 + a) ≡ cut (1 + cut a)
cut_one a = grind arith

cut_two : (a b : ℕ) → cut (1 + max a b) ≡ cut (1 + max (cut a) (cut b))
cut_two a b = grind arith

cut_three : (a b c : ℕ) → cut (1 + max a (max b c)) ≡ cut (1 + max (cut a) (max (cut b) (cut c)))
cut_three a b c = grind arith

-- ---- expressions

pub constant_has : (v : Value) → worth_of (Constant v) ≡ constant_worth v
unfolding depth_of is_unsigned word_of
constant_has v = refl

pub grouped_has : (e : Expr) → worth_of (Grouped e) ≡ grouped_worth (worth_of e)
unfolding depth_of is_unsigned word_of
grouped_has e = rw (cut_one (depth_of e)) refl

pub unary_has : (op : UnaryOp) (e : Expr) → worth_of (Unary op e) ≡ unary_worth op (worth_of e)
unfolding depth_of is_unsigned word_of
unary_has op e = rw (cut_one (depth_of e)) refl

pub binary_has : (op : BinaryOp) (a b : Expr) → worth_of (Binary op a b) ≡ binary_worth op (worth_of a) (worth_of b)
unfolding depth_of is_unsigned word_of
binary_has op a b = rw (cut_two (depth_of a) (depth_of b)) refl

pub choice_has : (c a b : Expr) → worth_of (Choice c a b) ≡ choice_worth (worth_of c) (worth_of a) (worth_of b)
unfolding depth_of is_unsigned word_of
choice_has c a b = rw (cut_three (depth_of c) (depth_of a) (depth_of b)) refl

-- ---- reading

-- what was read, with its worth
pub record Has (f : Found) (w : Worth) (rest : List PpTok) : Type 0 where
  pub e : Expr
  pub found : f ≡ Some (e, rest)
  pub has : worth_of e ≡ w

pub has_read : (f : Found) (w : Worth) (rest : List PpTok) → worth_read f ≡ Some (w, rest) → Has f w rest
has_read None w rest is = absurd cc
has_read (Some p) w rest is =
    let same : (worth_of p.0, p.1) ≡ (w, rest) = same_Some (worth_of p.0, p.1) (w, rest) is in
    record { e = p.0; found = ap (λ (ts : List PpTok). Some (p.0, ts)) (ap (λ (q : Worth × List PpTok). q.1) same); has = ap (λ (q : Worth × List PpTok). q.0) same }

pub grouped_reads : (whole : List PpTok → Found) (old mid new : List PpTok) (w : Worth) → worth_read (whole old) ≡ Some (w, mid) → behind (codes ")") mid ≡ Some new
    → worth_read (grouped_at whole old) ≡ Some (grouped_worth w, new)
grouped_reads whole old mid new w r closes =
    let h = has_read (whole old) w mid r in
    rw (h.found, closes) (ap (λ x. Some (x, new)) (grouped_has h.e ∙ ap grouped_worth h.has))

pub unary_reads : (operand whole : List PpTok → Found) (old mid new : List PpTok) (t : PpTok) (op : UnaryOp) (w : Worth) → old ≡ t ∷ mid → unary_op t ≡ Some op
    → worth_read (operand mid) ≡ Some (w, new) → worth_read (operand_at operand whole old) ≡ Some (unary_worth op w, new)
unary_reads operand whole old mid new t op w is takes r =
    let h = has_read (operand mid) w new r in
    rw (is, takes, h.found) (ap (λ x. Some (x, new)) (unary_has op h.e ∙ ap (unary_worth op) h.has))

pub constant_reads : (operand whole : List PpTok → Found) (old mid : List PpTok) (t : PpTok) (v : Value) → old ≡ t ∷ mid → unary_op t ≡ None → is_mark (codes "(") t ≡ false
    → value_of t ≡ Some v → worth_read (operand_at operand whole old) ≡ Some (constant_worth v, mid)
constant_reads operand whole old mid t v is no_op no_paren value =
    rw (is, no_op, no_paren, value) (ap (λ x. Some (x, mid)) (constant_has v))

pub choice_reads : (whole : List PpTok → Found) (c : Expr) (test w v : Worth) (old mid later new : List PpTok) → worth_of c ≡ test → worth_read (whole old) ≡ Some (w, mid)
    → behind (codes ":") mid ≡ Some later → worth_read (whole later) ≡ Some (v, new) → worth_read (choice_at whole c old) ≡ Some (choice_worth test w v, new)
choice_reads whole c test w v old mid later new is first parted second =
    let a = has_read (whole old) w mid first in
    let b = has_read (whole later) v new second in
    rw (a.found, parted, b.found) (ap (λ x. Some (x, new)) (choice_has c a.e b.e ∙ ap (λ x. choice_worth x (worth_of a.e) (worth_of b.e)) is ∙ ap (λ x. choice_worth test x (worth_of b.e)) a.has ∙ ap (choice_worth test w) b.has))

-- ---- operators of one rank

-- where a loop over them stands: the operand so far, and what is still to come
pub record Chained (total : Found) (higher : List PpTok → Found) (rank turns : ℕ) (left : Worth) (rest : List PpTok) : Type 0 where
  pub e : Expr
  pub has : worth_of e ≡ left
  pub so_far : total ≡ chain higher rank turns (e, rest)

less_one : (n : ℕ) → suc n - 1 ≡ n
less_one n = omega arith

pub ranked_is_operand : (operand : List PpTok → Found) (n rank : ℕ) (old new : List PpTok) (result : Option Worth) → rank ≡ 0 → Reads (operand old) result new
    → Reads (ranked operand n rank old) result new
unfolding ranked
ranked_is_operand operand n zero old new result is r = r
ranked_is_operand operand n (suc rank) old new result is r = absurd (omega (arith, is))

pub ranked_fails : (operand : List PpTok → Found) (n rank : ℕ) (old : List PpTok) → 0 < rank → ranked operand n (rank - 1) old ≡ None → ranked operand n rank old ≡ None
unfolding ranked
ranked_fails operand n zero old more fails = absurd (omega (arith, more))
ranked_fails operand n (suc rank) old more fails =
    ap (option_and_then (chain (ranked operand n rank) (suc rank) n)) (subst (λ k. ranked operand n k old ≡ None) (less_one rank) fails)

starts_at : (operand : List PpTok → Found) (n rank : ℕ) (old new : List PpTok) (w : Worth) → worth_read (ranked operand n rank old) ≡ Some (w, new)
    → Chained (ranked operand n (suc rank) old) (ranked operand n rank) (suc rank) n w new
unfolding ranked
starts_at operand n rank old new w r =
    let h = has_read (ranked operand n rank old) w new r in
    record { e = h.e; has = h.has; so_far = ap (option_and_then (chain (ranked operand n rank) (suc rank) n)) h.found }

pub chain_starts : (operand : List PpTok → Found) (n rank : ℕ) (old new : List PpTok) (w : Worth) → 0 < rank → worth_read (ranked operand n (rank - 1) old) ≡ Some (w, new)
    → Chained (ranked operand n rank old) (ranked operand n (rank - 1)) rank n w new
chain_starts operand n zero old new w more r = absurd (omega (arith, more))
chain_starts operand n (suc rank) old new w more r =
    subst (λ k. Chained (ranked operand n (suc rank) old) (ranked operand n k) (suc rank) n w new) (sym (less_one rank))
    (starts_at operand n rank old new w (subst (λ k. worth_read (ranked operand n k old) ≡ Some (w, new)) (less_one rank) r))

module _ (total : Found) (higher : List PpTok → Found) (rank : ℕ) (left : Worth) (rest : List PpTok) where
  goes_on : (turns : ℕ) (op : BinaryOp) (w : Worth) (new : List PpTok) → Chained total higher rank (suc turns) left rest → ranked_op rank rest ≡ Some op
      → worth_read (higher (tail_of rest)) ≡ Some (w, new) → Chained total higher rank turns (binary_worth op left w) new
  unfolding chain
  goes_on turns op w new c is r =
      let h = has_read (higher (tail_of rest)) w new r in
      record { e = Binary op c.e h.e; has = binary_has op c.e h.e ∙ ap (λ x. binary_worth op x (worth_of h.e)) c.has ∙ ap (binary_worth op left) h.has; so_far = c.so_far ∙ rw is (ap (option_and_then (λ q. chain higher rank turns (Binary op c.e q.0, q.1))) h.found) }

  pub chain_goes : (turns : ℕ) (op : BinaryOp) (w : Worth) (new : List PpTok) → 0 < turns → Chained total higher rank turns left rest → ranked_op rank rest ≡ Some op
      → worth_read (higher (tail_of rest)) ≡ Some (w, new) → Chained total higher rank (turns - 1) (binary_worth op left w) new
  chain_goes zero op w new more c is r = absurd (omega (arith, more))
  chain_goes (suc turns) op w new more c is r = subst (λ k. Chained total higher rank k (binary_worth op left w) new) (sym (less_one turns)) (goes_on turns op w new c is r)

  pub chain_stops : (turns : ℕ) → Chained total higher rank turns left rest → ranked_op rank rest ≡ None → worth_read total ≡ Some (left, rest)
  unfolding chain
  chain_stops zero c is = ap worth_read c.so_far ∙ rw is (ap (λ x. Some (x, rest)) c.has)
  chain_stops (suc turns) c is = ap worth_read c.so_far ∙ rw is (ap (λ x. Some (x, rest)) c.has)

  pub chain_fails : (turns : ℕ) (op : BinaryOp) → 0 < turns → Chained total higher rank turns left rest → ranked_op rank rest ≡ Some op → higher (tail_of rest) ≡ None → total ≡ None
  unfolding chain
  chain_fails zero op more c is fails = absurd (omega (arith, more))
  chain_fails (suc turns) op more c is fails = c.so_far ∙ rw (is, fails) refl

  pub chain_is_long : (turns : ℕ) (op : BinaryOp) → turns ≡ 0 → Chained total higher rank turns left rest → ranked_op rank rest ≡ Some op → total ≡ None
  unfolding chain
  chain_is_long zero op none c is = c.so_far ∙ rw is refl
  chain_is_long (suc turns) op none c is = absurd (omega (arith, none))

-- ---- a whole condition

pub whole_ends : (whole : List PpTok → Found) (n : ℕ) (operand : List PpTok → Found) (old rest : List PpTok) (w : Worth)
    → worth_read (ranked (operand_at operand whole) n 10 old) ≡ Some (w, rest) → behind (codes "?") rest ≡ None → worth_read (whole_at n operand whole old) ≡ Some (w, rest)
whole_ends whole n operand old rest w r is =
    let h = has_read (ranked (operand_at operand whole) n 10 old) w rest r in
    rw (h.found, is) (ap (λ x. Some (x, rest)) h.has)

pub whole_goes : (whole : List PpTok → Found) (n : ℕ) (operand : List PpTok → Found) (old rest mid : List PpTok) (w : Worth) (result : Option Worth) (new : List PpTok)
    → worth_read (ranked (operand_at operand whole) n 10 old) ≡ Some (w, rest) → behind (codes "?") rest ≡ Some mid
    → ((c : Expr) → worth_of c ≡ w → Reads (choice_at whole c mid) result new) → Reads (whole_at n operand whole old) result new
whole_goes whole n operand old rest mid w result new r is more =
    let h = has_read (ranked (operand_at operand whole) n 10 old) w rest r in
    rw (h.found, is) (more h.e h.has)

-- ---- a part

pub part_steps : (depth : ℕ) (kind : Part) (old : List PpTok) (result : Option Worth) (new : List PpTok) → 0 < depth
    → Reads (part_at (depth - 1) (part (depth - 1) Operand) (part (depth - 1) Whole) kind old) result new → Reads (part depth kind old) result new
unfolding part
part_steps zero kind old result new more r = absurd (omega arith)
part_steps (suc depth) kind old result new more r = subst (λ d. Reads (part_at d (part d Operand) (part d Whole) kind old) result new) (less_one depth) r
