-- Bytes side by side, and the room that they take. Assumes `Logic`.
use Rattle.std.proofs.Common.{◌≡◌, ℕ, suc, ◌+◌, ◌-◌, ◌<◌, List, [], ◌∷◌, ◌++◌, length, replicate, refl, sym, ap, ◌∙◌, arith}
use Rattle.std.proofs.lemmas.List.{length-replicate, replicate_more}
use base.Fml.{Fml, feq, froom, fsep}
use base.Fraction.{full_share}
use base.Logic.{SProp, ent, sep, emp, via, mono_r, mono∗, snd∗, assoc∗}
use denote.Array.{Array}
use denote.ArrayMemory.{Array-apart, Array-whole}
use denote.Builtin.{u8}
use denote.Index.{place, place_byte, row}
use denote.Memory.{part_at}
use denote.Plain.{uint_out}
use mir.Syntax.{Ty, w8, ty_int, ty_array}
use mir.Val.{vint}
use seplogic.Ra.Ura.{Ura}
use denote.Steps.{nothing}
use types.Kit.{‵, ◌⊛◌, ◌$◌, ◌∵◌, !, qed, by, move, drop, use1, use2, split, fsplit, fjoin, feq_i, rewrite, done}
use types.Logic.{Logic, sem}

module _ {M : Type 1} {𝓤 : Ura M} (𝓛 : Logic 𝓤) (b : ℕ) where
  open 𝓛 use {H}

  abbrev byte : Ty
  byte = ty_int w8

  abbrev pub bytes : List ℕ → ℕ → Fml
  bytes xs o = row u8 full_share xs b o

  -- an array is its bytes
  pub array_out : (xs : List ℕ) (o : ℕ) → ent 𝓤 (sem 𝓛 (part_at (Array u8 (length xs)) full_share xs b o)) (sem 𝓛 (bytes xs o))
  array_out xs o = qed 𝓛 (‵ (part_at (Array u8 (length xs)) full_share xs b o) ∷ []) ∵ use1 𝓛 (‵ (fsep (feq ℕ (length xs) (length xs)) (bytes xs o))) (Array-apart 𝓛 u8 full_share tt (length xs) xs b o) $ fsplit ! $ drop ! $ done !

  pub array_in : (xs : List ℕ) (o : ℕ) → ent 𝓤 (sem 𝓛 (bytes xs o)) (sem 𝓛 (part_at (Array u8 (length xs)) full_share xs b o))
  array_in xs o = qed 𝓛 (‵ (bytes xs o) ∷ []) ∵ feq_i ! ℕ (length xs) (length xs) refl $ fjoin ! $ by ! (Array-whole 𝓛 u8 full_share (length xs) xs b o)

  glued : (xs ys : List ℕ) (o : ℕ) → ent 𝓤 (sep 𝓤 (sem 𝓛 (bytes xs o)) (sem 𝓛 (bytes ys (place 1 o (length xs))))) (sem 𝓛 (bytes (xs ++ ys) o))
  glued [] ys o = snd∗ 𝓤 (emp 𝓤) (sem 𝓛 (bytes ys o))
  glued (x ∷ xs) ys o =
      let first : SProp 𝓤 = sem 𝓛 (part_at u8 full_share x b o) in
      let rest : SProp 𝓤 = sem 𝓛 (bytes xs (o + 1)) in
      let more : SProp 𝓤 = sem 𝓛 (bytes ys (place 1 (o + 1) (length xs))) in
      via 𝓤 (sep 𝓤 first (sep 𝓤 rest more)) (assoc∗ 𝓤 first rest more) (mono_r 𝓤 first (glued xs ys (o + 1)))

  -- they give their room up
  pub room_of : (xs : List ℕ) (o : ℕ) → ent 𝓤 (sem 𝓛 (bytes xs o)) (H.room (ty_array byte (length xs)) b o)
  room_of [] o = 𝓛.laws.room_nil byte b o
  room_of (x ∷ xs) o =
      via 𝓤 (sep 𝓤 (H.room byte b o) (H.room (ty_array byte (length xs)) b (o + 1)))
      (mono∗ 𝓤 (via 𝓤 _ (uint_out 𝓛 full_share w8 x b o) (𝓛.laws.at_room byte b o (vint w8 x))) (room_of xs (o + 1))) (𝓛.laws.room_cons byte (length xs) b o)

  -- one more zero, and one place fewer to write
  pub zero_in : (i o : ℕ) → ent 𝓤 (sep 𝓤 (sem 𝓛 (bytes (replicate i 0) o)) (sem 𝓛 (part_at u8 full_share 0 b (i + o)))) (sem 𝓛 (bytes (replicate (i + 1) 0) o))
  zero_in i o =
      qed 𝓛 (‵ (bytes (replicate i 0) o) ∷ ‵ (part_at u8 full_share 0 b (i + o)) ∷ []) ∵
      rewrite ! 1 (λ (k : ℕ). ‵ (part_at u8 full_share 0 b k)) (sym (ap (λ k. place 1 o k) (length-replicate i 0) ∙ place_byte o i)) refl $
      move ! (1 ∷ []) $ nothing ! $ move ! (1 ∷ 0 ∷ []) $ fjoin ! $ move ! (1 ∷ 0 ∷ []) $
      use2 𝓛 (‵ (bytes (replicate i 0 ++ 0 ∷ []) o)) (glued (replicate i 0) (0 ∷ []) o) $ rewrite ! 0 (λ (xs : List ℕ). ‵ (bytes xs o)) (replicate_more i 0) refl $ done !

  pub place_out : (n i o : ℕ) → i < n → ent 𝓤 (H.room (ty_array byte (n - i)) b (i + o)) (sep 𝓤 (H.room byte b (i + o)) (H.room (ty_array byte (n - (i + 1))) b ((i + 1) + o)))
  place_out n i o less =
      let count : n - i ≡ suc (n - (i + 1)) = omega (arith, less) in
      qed 𝓛 (‵ (froom (ty_array byte (n - i)) b (i + o)) ∷ []) ∵ rewrite ! 0 (λ (k : ℕ). ‵ (froom (ty_array byte k) b (i + o))) count refl $
      use1 𝓛 (‵ (froom byte b (i + o)) ⊛ ‵ (froom (ty_array byte (n - (i + 1))) b ((i + o) + 1))) (𝓛.laws.room_uncons byte (n - (i + 1)) b (i + o)) $ split ! $
      rewrite ! 1 (λ (k : ℕ). ‵ (froom (ty_array byte (n - (i + 1))) b k)) (omega arith) refl $ done !
