-- A loop that counts turns up, beside the parser that counts them down.
use Rattle.std.proofs.Common.{◌≡◌, ◌≢◌, ℕ, zero, suc, ◌-◌, ◌<◌, Bool, true, false, Ok, Err, refl, sym, ap, ◌∙◌, arith}
use Rattle.c_decl.specs.declared.fault.Halt.{Halt}
use Rattle.c_decl.specs.declared.fault.Halt.TheVariants.{NoMemory}
use Rattle.c_decl.specs.Input.{Input, Outcome, Parser, and_then, turns, looped, left}

-- from a at i on there are n turns left of the loop that began at b and j
pub record Turns {A : Type 0} (more : A → Input → Bool) (step : A → Parser A) (b : A) (j : Input) (n : ℕ) (a : A) (i : Input) : Type 0 where
  pub same : looped more step b j ≡ turns more step n a i

pub loop_starts : {A : Type 0} (more : A → Input → Bool) (step : A → Parser A) (a : A) (i : Input) (n : ℕ) → n ≡ left i → Turns more step a i n a i
unfolding looped
loop_starts more step a i n e = record { same = ap (λ (k : ℕ). turns more step k a i) (sym e) }

stops : {A : Type 0} (more : A → Input → Bool) (step : A → Parser A) (n : ℕ) (a : A) (i : Input) → more a i ≡ false → turns more step n a i ≡ Ok (a, i)
unfolding turns
stops more step zero a i e = refl
stops more step (suc n) a i e = rw e refl

none_left : {A : Type 0} (more : A → Input → Bool) (step : A → Parser A) (n : ℕ) (a : A) (i : Input) → n ≡ 0 → turns more step n a i ≡ Ok (a, i)
unfolding turns
none_left more step zero a i e = refl
none_left more step (suc n) a i e = let none : ⊥ = omega arith in absurd none

turn : {A : Type 0} (more : A → Input → Bool) (step : A → Parser A) (n m : ℕ) (a : A) (i : Input) → n ≡ suc m → more a i ≡ true → turns more step n a i ≡ and_then (step a i) (turns more step m)
unfolding turns
turn more step zero m a i e goes = let none : ⊥ = omega arith in absurd none
turn more step (suc n) m a i e goes = rw goes (let s : n ≡ m = omega arith in ap (λ (k : ℕ). and_then (step a i) (turns more step k)) s)

pub loop_stops : {A : Type 0} {more : A → Input → Bool} {step : A → Parser A} {b a : A} {j i : Input} {n : ℕ}
    → Turns more step b j n a i → more a i ≡ false → looped more step b j ≡ Ok (a, i)
loop_stops {more = more} {step = step} {a = a} {i = i} {n = n} t stop = t.same ∙ stops more step n a i stop

pub loop_ends : {A : Type 0} {more : A → Input → Bool} {step : A → Parser A} {b a : A} {j i : Input} {n : ℕ}
    → Turns more step b j n a i → n ≡ 0 → looped more step b j ≡ Ok (a, i)
loop_ends {more = more} {step = step} {a = a} {i = i} {n = n} t none = t.same ∙ none_left more step n a i none

pub loop_goes : {A : Type 0} {more : A → Input → Bool} {step : A → Parser A} {b a : A} {j i : Input} {n : ℕ} (m : ℕ) (c : A) (k : Input)
    → Turns more step b j n a i → n ≡ suc m → more a i ≡ true → step a i ≡ Ok (c, k) → Turns more step b j m c k
loop_goes {more = more} {step = step} {a = a} {i = i} {n = n} m c k t one goes is =
    record { same = t.same ∙ turn more step n m a i one goes ∙ ap (λ (o : Outcome _). and_then o (turns more step m)) is }

pub loop_fails : {A : Type 0} {more : A → Input → Bool} {step : A → Parser A} {b a : A} {j i : Input} {n : ℕ} {h : Halt}
    → Turns more step b j n a i → 0 < n → more a i ≡ true → (h ≢ NoMemory → step a i ≡ Err h) → h ≢ NoMemory → looped more step b j ≡ Err h
loop_fails {more = more} {step = step} {a = a} {i = i} {n = n} t one goes fails other =
    t.same ∙ turn more step n (n - 1) a i (omega arith) goes ∙ ap (λ (o : Outcome _). and_then o (turns more step (n - 1))) (fails other)
