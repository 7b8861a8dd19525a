-- Lists of types that agree, place by place.
use Rattle.std.proofs.Common.{◌≡◌, ◌≢◌, ℕ, ◌+◌, ◌<◌, Bool, true, false, List, [], ◌∷◌, length, drop, get_or, zero, suc, refl, ap, ◌∙◌, sym, arith}
use Rattle.std.specs.Prelude.{◌&&◌}
use Rattle.c_type.specs.Compatible.{agree_by, all_agree, same_tag}
use Rattle.c_type.specs.View.{type_of, types_of}
use Rattle.c_type.specs.declared.ctype.CType.{CType}

and-false : (b : Bool) → false ≡ (b && false)
and-false true = refl
and-false false = refl

pub lengths-differ : (ts us : List CType) → length ts ≢ length us → false ≡ all_agree same_tag (types_of ts) (types_of us)
lengths-differ [] [] ne = absurd (ne refl)
lengths-differ [] (u ∷ us) ne = refl
lengths-differ (t ∷ ts) [] ne = refl
lengths-differ (t ∷ ts) (u ∷ us) ne =
    and-false (agree_by same_tag (type_of t) (type_of u)) ∙ ap (λ b. agree_by same_tag (type_of t) (type_of u) && b) (lengths-differ ts us (λ e. ne (ap suc e)))

agree-at : (ts us : List CType) (i : ℕ) (t u : CType) → i < length ts → i < length us → t ≡ get_or ts i t → u ≡ get_or us i u
    → all_agree same_tag (types_of (drop i ts)) (types_of (drop i us))
    ≡ (agree_by same_tag (type_of t) (type_of u) && all_agree same_tag (types_of (drop (suc i) ts)) (types_of (drop (suc i) us)))
agree-at [] us i t u lt mt e f = absurd (omega arith)
agree-at (x ∷ ts) [] i t u lt mt e f = absurd (omega arith)
agree-at (x ∷ ts) (y ∷ us) zero t u lt mt e f =
    ap (λ z. agree_by same_tag (type_of z) (type_of y) && all_agree same_tag (types_of ts) (types_of us)) (sym e)
    ∙ ap (λ z. agree_by same_tag (type_of t) (type_of z) && all_agree same_tag (types_of ts) (types_of us)) (sym f)
agree-at (x ∷ ts) (y ∷ us) (suc i) t u lt mt e f = agree-at ts us i t u (omega arith) (omega arith) e f

pub agree-goes : (ts us : List CType) (i j : ℕ) (t u : CType) (r : Bool) → i < length ts → length ts ≡ length us → t ≡ get_or ts i t → u ≡ get_or us i u → j ≡ i + 1
    → agree_by same_tag (type_of t) (type_of u) ≡ true → all_agree same_tag (types_of (drop i ts)) (types_of (drop i us)) ≡ r
    → all_agree same_tag (types_of (drop j ts)) (types_of (drop j us)) ≡ r
agree-goes ts us i j t u r lt len e f next agree so_far =
    let at = agree-at ts us i t u lt (omega (arith, len)) e f in
    let k : j ≡ suc i = omega (arith, next) in
    rw k (sym (ap (λ b. b && all_agree same_tag (types_of (drop (suc i) ts)) (types_of (drop (suc i) us))) agree) ∙ sym at ∙ so_far)

pub agree-stops : (ts us : List CType) (i : ℕ) (t u : CType) (r : Bool) → i < length ts → length ts ≡ length us → t ≡ get_or ts i t → u ≡ get_or us i u
    → agree_by same_tag (type_of t) (type_of u) ≡ false → all_agree same_tag (types_of (drop i ts)) (types_of (drop i us)) ≡ r → false ≡ r
agree-stops ts us i t u r lt len e f differ so_far =
    let at = agree-at ts us i t u lt (omega (arith, len)) e f in
    sym (ap (λ b. b && all_agree same_tag (types_of (drop (suc i) ts)) (types_of (drop (suc i) us))) differ) ∙ sym at ∙ so_far

pub ruleset lists = (lengths-differ, agree-goes, agree-stops)
