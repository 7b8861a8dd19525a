-- Loops along what they read: each turn takes a token.
use Rattle.std.proofs.Common.{◌≡◌, ℕ, zero, suc, ◌<◌, ◌≤◌, Bool, true, false, Ok, refl, ◌∙◌, arith}
use Rattle.c_decl.specs.Input.{Input, Parser, left, turns, looped}

-- from what G gives first, by turns
pub data Led {X A : Type 0} (G : X → Input → Type 0) (f : X → A) (more : A → Input → Bool) (step : A → Parser A) : A → Input → Type 0 where
  begun : (x : X) {j : Input} → G x j → Led G f more step (f x) j
  turned : {b d : A} {j k : Input} → Led G f more step b j → more b j ≡ true → step b j ≡ Ok (d, k) → left k < left j
      → Led G f more step d k

-- the first, and what the loop makes of it
pub record Stopped {X A : Type 0} (G : X → Input → Type 0) (f : X → A) (more : A → Input → Bool) (step : A → Parser A) (b : A)
    (j : Input) : Type 0 where
  pub first : X
  pub behind : Input
  pub gives : G first behind
  pub loops : looped more step (f first) behind ≡ Ok (b, j)

module _ {X A : Type 0} (f : X → A) (more : A → Input → Bool) (step : A → Parser A) where
  record Rest (n : ℕ) (first : X) (behind : Input) (b : A) (j : Input) : Type 0 where
    turns_left : ℕ
    enough : left j ≤ turns_left
    same : turns more step n (f first) behind ≡ turns more step turns_left b j

  one_more : (n : ℕ) (first : X) (behind : Input) (b d : A) (j k : Input) → more b j ≡ true → step b j ≡ Ok (d, k) → left k < left j
      → Rest n first behind b j → Rest n first behind d k
  unfolding turns
  one_more n first behind b d j k on is lt r = by_count r.turns_left r.enough r.same where
    by_count : (t : ℕ) → left j ≤ t → turns more step n (f first) behind ≡ turns more step t b j → Rest n first behind d k
    by_count zero enough same = absurd (omega arith)
    by_count (suc t) enough same = record { turns_left = t; enough = omega arith; same = same ∙ rw (on, is) refl }

  stop_turns : (n : ℕ) (b : A) (j : Input) → more b j ≡ false → turns more step n b j ≡ Ok (b, j)
  unfolding turns
  stop_turns zero b j off = refl
  stop_turns (suc n) b j off = rw off refl

  module _ (G : X → Input → Type 0) where
    record Path (b : A) (j : Input) : Type 0 where
      first : X
      behind : Input
      gives : G first behind
      goes : (n : ℕ) → left behind ≤ n → Rest n first behind b j

    path : (b : A) (j : Input) → Led G f more step b j → Path b j
    path _ _ (begun x {j = j} h) = record {
      first = x;
      behind = j;
      gives = h;
      goes = λ n le. record
          { turns_left = n; enough = le; same = refl };
    }
    path _ _ (turned {b = b} {d = d} {j = j} {k = k} l on is lt) =
        let p = path b j l in
        record {
          first = p.first;
          behind = p.behind;
          gives = p.gives;
          goes = λ n le. one_more n p.first p.behind b d j k on is lt
              (p.goes n le);
        }

pub stopped : {X A : Type 0} {G : X → Input → Type 0} {f : X → A} {more : A → Input → Bool} {step : A → Parser A} {b : A} {j : Input}
    → Led G f more step b j → more b j ≡ false → Stopped G f more step b j
unfolding looped
stopped {G = G} {f = f} {more = more} {step = step} {b = b} {j = j} l off =
    let p = path f more step G b j l in
    let r = p.goes (left p.behind) (omega arith) in
    record { first = p.first; behind = p.behind; gives = p.gives; loops = r.same ∙ stop_turns f more step r.turns_left b j off }
