-- What is looked at is the next token.
use Rattle.std.proofs.Common.{ℕ, suc, Bool, not, length, refl, arith}
use Rattle.std.specs.Prelude.{◌||◌, nat_lt}
use Rattle.std.proofs.lemmas.Bool.{lt-ltb}
use Rattle.c_tok.specs.declared.mark.Mark.{Mark}
use Rattle.c_tok.specs.declared.mark.Mark.TheVariants as m
use Rattle.c_decl.specs.declared.kind.DeclKind.{DeclKind}
use Rattle.c_decl.specs.Input.{head, left, sees}
use Rattle.c_decl.specs.Entries.{spec_comes, word_comes, goes_on, passes, direct_comes, declarator_comes, suffix_comes, pointer_comes, body_comes}
use Rattle.c_decl.proofs.Steady.{First}

pub state_first : First (λ i. i.state)
state_first x r r' S = refl

pub sees_not : (mark : Mark) → First (λ i. not (sees mark i))
unfolding sees head
sees_not mark x r r' S = refl

pub spec_first : (typed : Bool) → First (spec_comes typed)
unfolding spec_comes head
spec_first typed x r r' S = refl

pub word_first : First word_comes
unfolding word_comes spec_comes head
word_first x r r' S = refl

pub goes_first : (n : ℕ) → First (goes_on n)
unfolding goes_on head
goes_first n x r r' S = refl

pub passes_first : (inside : Bool) → First (passes inside)
unfolding passes head
passes_first inside x r r' S = refl

pub direct_first : (kind : DeclKind) (typed : Bool) → First (direct_comes kind typed)
unfolding direct_comes head
direct_first kind typed x r r' S = refl

pub declarator_first : (kind : DeclKind) (typed : Bool) → First (declarator_comes kind typed)
unfolding declarator_comes direct_comes sees head
declarator_first kind typed x r r' S = refl

pub suffix_first : First suffix_comes
unfolding suffix_comes sees head
suffix_first x r r' S = refl

pub pointer_first : First pointer_comes
unfolding pointer_comes head
pointer_first x r r' S = refl

pub some_first : First (λ i. nat_lt 0 (left i))
unfolding left
some_first x r r' S = rw (lt-ltb 0 (suc (length r)) (omega arith), lt-ltb 0 (suc (length r')) (omega arith)) refl

pub body_first : First body_comes
unfolding body_comes sees head left
body_first x r r' S = rw (lt-ltb 0 (suc (length r)) (omega arith), lt-ltb 0 (suc (length r')) (omega arith)) refl

-- the opening of a function's body, or the first of its old-style declarations
pub defines_first : First (λ i. sees m.OpenBrace i || word_comes i)
unfolding word_comes spec_comes sees head
defines_first x r r' S = refl
