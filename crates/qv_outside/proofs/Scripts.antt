-- A script that gives its next reply.
use Rattle.std.proofs.Common.{◌≡◌, ℕ, ◌+◌, ◌<◌, ◌≤◌, List, [], ◌∷◌, ◌++◌, length, get_or, take, drop, map, min, refl, sym, ap, ◌∙◌, subst, arith}
use Rattle.std.specs.List.{zip}
use Rattle.std.specs.Global.{Vec}
use Rattle.std.proofs.lemmas.List.{drop_more, map_push, length_push, get_or-map, take_at, length-take-le, take_min}
use Rattle.qv_outside.specs.Event.{Reply}
use Rattle.qv_outside.specs.Script.{replies_in, cut, GivesNext}

zip_nil : {X : Type 0} (xs : List X) → zip {K = X} {X = ℕ} xs [] ≡ []
zip_nil [] = refl
zip_nil (x ∷ xs) = refl

zip_push : {X : Type 0} (xs : List X) (ns : List ℕ) (n : ℕ) (d : X) → length ns < length xs → zip xs (ns ++ n ∷ []) ≡ zip xs ns ++ (get_or xs (length ns) d, n) ∷ []
zip_push [] ns n d h = absurd (omega arith)
zip_push {X} (x ∷ xs) [] n d h = ap (λ (t : List (X × ℕ)). (x, n) ∷ t) (zip_nil xs)
zip_push {X} (x ∷ xs) (m ∷ ns) n d h = ap (λ (t : List (X × ℕ)). (x, m) ∷ t) (zip_push xs ns n d (omega arith))

pub none_given : (rs : List Reply) (ns : List ℕ) → ns ≡ [] → map (λ (p : Reply × ℕ). cut p.0 p.1) (zip rs ns) ≡ []
none_given rs ns e = ap (λ (x : List ℕ). map (λ (p : Reply × ℕ). cut p.0 p.1) (zip rs x)) e ∙ ap (map (λ (p : Reply × ℕ). cut p.0 p.1)) (zip_nil rs)

-- the reply at a place
pub reply_at : (replies : List (ℕ × Vec ℕ)) (i : ℕ) (x : ℕ × Vec ℕ) (r : Reply) → i < length replies → x ≡ get_or replies i x → r ≡ record { word = x.0; bytes = x.1.items } → r ≡ get_or (replies_in replies) i r
reply_at replies i x r lt is e =
    let f : ℕ × Vec ℕ → Reply = λ y. record { word = y.0; bytes = y.1.items } in
    e ∙ ap f is ∙ sym (get_or-map f replies i x r lt)

-- the bytes given are the first of the reply
pub bytes_given : (bytes copied rest : List ℕ) (used : ℕ) → copied ≡ take used bytes → used ≤ length bytes → take used (copied ++ rest) ≡ take used bytes
bytes_given bytes copied rest used e le = take_at copied rest used (ap length e ∙ length-take-le used bytes le) ∙ e

pub bytes_cut : (bytes : List ℕ) (used len : ℕ) → used ≡ min len (length bytes) → take used bytes ≡ take len bytes
bytes_cut bytes used len e = ap (λ n. take n bytes) e ∙ take_min len bytes

abbrev pub reply_with : ℕ → List ℕ → Reply
reply_with word bytes = record { word = word; bytes = bytes }

-- one more is given
pub gives_more : (rs : List Reply) (ns ns2 : List ℕ) (n : ℕ) (r reply : Reply) → ns2 ≡ ns ++ n ∷ [] → length ns < length rs → r ≡ get_or rs (length ns) r → reply ≡ cut r n → map (λ (p : Reply × ℕ). cut p.0 p.1) (zip rs ns2) ≡ map (λ (p : Reply × ℕ). cut p.0 p.1) (zip rs ns) ++ reply ∷ []
gives_more rs ns ns2 n r reply more h is e =
    let before = map (λ (p : Reply × ℕ). cut p.0 p.1) (zip rs ns) in
    ap (λ (x : List ℕ). map (λ (p : Reply × ℕ). cut p.0 p.1) (zip rs x)) more
    ∙ ap (map (λ (p : Reply × ℕ). cut p.0 p.1)) (zip_push rs ns n r h)
    ∙ map_push (λ (p : Reply × ℕ). cut p.0 p.1) (zip rs ns) (get_or rs (length ns) r, n)
    ∙ ap (λ (x : Reply). before ++ cut x n ∷ []) (sym is)
    ∙ ap (λ (x : Reply). before ++ x ∷ []) (sym e)

-- the first of those that are left
pub gives_next : (rs : List Reply) (ns ns2 : List ℕ) (n len : ℕ) (r reply : Reply) → ns2 ≡ ns ++ n ∷ [] → length ns < length rs → r ≡ get_or rs (length ns) r → reply ≡ cut r len → GivesNext (drop (length ns) rs) (drop (length ns2) rs) len reply
gives_next rs ns ns2 n len r reply more h is e =
    let P : List Reply → Type 0 = λ left. GivesNext left (drop (length ns2) rs) len reply in
    let rest : drop (length ns2) rs ≡ drop (length ns + 1) rs = ap (λ m. drop m rs) (ap length more ∙ length_push ns n) in
    subst P (sym (drop_more rs (length ns) r h)) (e ∙ ap (λ (x : Reply). cut x len) is, rest)
