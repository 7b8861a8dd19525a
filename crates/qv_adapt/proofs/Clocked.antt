-- What a table with the clock's trap has.
use Rattle.std.proofs.Common.{◌≡◌, ℕ, ◌==◌, false, cond, List, Some, ◌≢◌, refl, ap, sym, subst, ◌∙◌, replicate, arith}
use Rattle.std.specs.Prelude.{IsTrue}
use Rattle.std.specs.Cmp.{nat_cmp_total, unsigned_tied}
use Rattle.std.specs.FinMap.{get-insert}
use Rattle.std.proofs.Math.Bool.{Bool-set}
use Rattle.std.proofs.lemmas.Bool.Decides.{nat_tests}
use Rattle.qv_outside.specs.Hosts.{Table, sig_of}
use Rattle.qv_outside.specs.Signature.{well_formed}
use Rattle.qv_outside.specs.declared.signature.Kind.{Kind}
use Rattle.qv_outside.specs.declared.signature.Kind.TheVariants.{Int}
use Rattle.qv_outside.specs.declared.signature.Sig.{Sig}
use Rattle.qv_adapt.specs.Clock.{clock_sig, with_clock}

-- a signature by its parts
made : (count : ℕ) (kinds : List Kind) → IsTrue (well_formed count kinds) → Sig
made count kinds well = record { count = count; kinds = kinds; well_formed = well }

pub is_clock_sig : (s : Sig) → s.count ≡ 0 → s.kinds ≡ replicate 14 Int → s ≡ clock_sig
unfolding made
is_clock_sig s count kinds =
    let Q : List Kind → Type 0 = λ ks. (well : IsTrue (well_formed 0 ks)) → made 0 ks well ≡ clock_sig in
    let at_kinds : Q (replicate 14 Int) = λ well. ap (made 0 (replicate 14 Int)) (Bool-set _ _ well refl) in
    let P : ℕ → Type 0 = λ n. (well : IsTrue (well_formed n s.kinds)) → made n s.kinds well ≡ clock_sig in
    let at_count : P 0 = subst Q (sym kinds) at_kinds in
    subst P (sym count) at_count s.well_formed

pub at_clock : (table : Table) → sig_of (with_clock table) 2 ≡ Some clock_sig
at_clock table = get-insert nat_cmp_total table 2 clock_sig 2

other_number : (n : ℕ) → n ≢ 2 → (n == 2) ≡ false
other_number n h = grind (arith, nat_tests)

pub elsewhere : (table : Table) (n : ℕ) → n ≢ 2 → sig_of (with_clock table) n ≡ sig_of table n
elsewhere table n h =
    get-insert nat_cmp_total table 2 clock_sig n
    ∙ ap (λ b. cond b (Some clock_sig) (sig_of table n)) (unsigned_tied n 2 ∙ other_number n h)
