-- Options and names behind a place.
use Rattle.std.proofs.Common.{◌≡◌, ℕ, ◌+◌, ◌<◌, ◌≤◌, Bool, true, false, ◌&&◌, List, [], ◌∷◌, length, get_or, drop, map, Option, Some, None, refl, sym, ap, ◌∙◌}
use Rattle.std.specs.Prelude.{is_some, option_and_then, if◌then◌else◌, codes}
use Rattle.std.specs.Str.{bytes_eq}
use Rattle.std.proofs.lemmas.List.{drop_more, drop_all}
use Rattle.qv_words.specs.declared.verb.Verb.{Verb}
use Rattle.qv_words.specs.declared.verb.Switch.TheVariants.{NextCall}
use Rattle.qv_words.specs.Names.{begins_with_dash}
use Rattle.qv_words.specs.Words.{Options, Command, is_switch, with_switch, with_option, command_with, read_from}

no_switch : (word : List ℕ) → begins_with_dash word ≡ false → is_switch word ≡ false
no_switch [] plain = refl
no_switch (b ∷ bs) plain = ap (λ k. is_some (if k && bytes_eq bs (codes "c") then Some NextCall else None)) plain

module _ (verb : Verb) (o : Options) where
  -- a switch
  pub switch_read : (word : List ℕ) (words : List (List ℕ)) → is_switch word ≡ true → read_from verb (word ∷ words) o ≡ option_and_then (read_from verb words) (with_switch verb o word)
  unfolding read_from
  switch_read word [] is =
      ap (λ k. if k then option_and_then (read_from verb []) (with_switch verb o word) else (if begins_with_dash word then None else command_with verb o (word ∷ []))) is
  switch_read word (value ∷ words) is =
      ap (λ k. if k then option_and_then (read_from verb (value ∷ words)) (with_switch verb o word) else (if begins_with_dash word then option_and_then (read_from verb words) (with_option verb o word value) else command_with verb o (word ∷ value ∷ words))) is

  -- an option and its value
  pub option_read : (word value : List ℕ) (words : List (List ℕ)) → is_switch word ≡ false → begins_with_dash word ≡ true → read_from verb (word ∷ value ∷ words) o ≡ option_and_then (read_from verb words) (with_option verb o word value)
  unfolding read_from
  option_read word value words other dash =
      ap (λ k. if k then option_and_then (read_from verb (value ∷ words)) (with_switch verb o word) else (if begins_with_dash word then option_and_then (read_from verb words) (with_option verb o word value) else command_with verb o (word ∷ value ∷ words))) other
      ∙ ap (λ k. if k then option_and_then (read_from verb words) (with_option verb o word value) else command_with verb o (word ∷ value ∷ words)) dash

  -- an option whose value is missing
  pub missing_read : (word : List ℕ) → is_switch word ≡ false → begins_with_dash word ≡ true → read_from verb (word ∷ []) o ≡ None
  unfolding read_from
  missing_read word other dash =
      ap (λ k. if k then option_and_then (read_from verb []) (with_switch verb o word) else (if begins_with_dash word then None else command_with verb o (word ∷ []))) other
      ∙ ap (λ k. if k then None else command_with verb o (word ∷ [])) dash

  -- names
  pub names_read : (word : List ℕ) (words : List (List ℕ)) → begins_with_dash word ≡ false → read_from verb (word ∷ words) o ≡ command_with verb o (word ∷ words)
  unfolding read_from
  names_read word [] plain =
      ap (λ k. if k then option_and_then (read_from verb []) (with_switch verb o word) else (if begins_with_dash word then None else command_with verb o (word ∷ []))) (no_switch word plain)
      ∙ ap (λ k. if k then None else command_with verb o (word ∷ [])) plain
  names_read word (value ∷ words) plain =
      ap (λ k. if k then option_and_then (read_from verb (value ∷ words)) (with_switch verb o word) else (if begins_with_dash word then option_and_then (read_from verb words) (with_option verb o word value) else command_with verb o (word ∷ value ∷ words))) (no_switch word plain)
      ∙ ap (λ k. if k then option_and_then (read_from verb words) (with_option verb o word value) else command_with verb o (word ∷ value ∷ words)) plain

  pub no_names : read_from verb [] o ≡ command_with verb o []
  unfolding read_from
  no_names = refl

-- what a value that was read, or wasn't, says of the options
module _ (verb : Verb) (old new : Options) (taken : Bool) (next : Option Options) where
  abbrev pub Says : Type 0
  Says = (if taken then Some new else None) ≡ next

  was_read : Says → taken ≡ true → next ≡ Some new
  was_read is yes_read = sym is ∙ ap (λ k. if k then Some new else None) yes_read

  was_refused : Says → taken ≡ false → next ≡ None
  was_refused is refused = sym is ∙ ap (λ k. if k then Some new else None) refused

  pub read_on : (all : Option Command) (words : List (List ℕ)) → all ≡ option_and_then (read_from verb words) next → Says → taken ≡ true → all ≡ read_from verb words new
  read_on all words e is yes_read = e ∙ ap (option_and_then (read_from verb words)) (was_read is yes_read)

  pub read_refused : (all : Option Command) (words : List (List ℕ)) → all ≡ option_and_then (read_from verb words) next → Says → taken ≡ false → all ≡ None
  read_refused all words e is refused = e ∙ ap (option_and_then (read_from verb words)) (was_refused is refused)

module _ {X : Type 0} (f : X → List ℕ) where
  -- the first of some words
  pub first_word : (xs : List X) (x : X) (a : List ℕ) → 0 < length xs → x ≡ get_or xs 0 x → a ≡ f x → map f xs ≡ a ∷ map f (drop 1 xs)
  first_word xs x a lt is e = ap (map f) (drop_more xs 0 x lt ∙ ap (λ y. y ∷ drop 1 xs) (sym is)) ∙ ap (λ b. b ∷ map f (drop 1 xs)) (sym e)

  -- names begin at a place
  pub names_at : (verb : Verb) (o : Options) (xs : List X) (i : ℕ) (x : X) (a : List ℕ) → i < length xs → x ≡ get_or xs i x → a ≡ f x → begins_with_dash a ≡ false →
      command_with verb o (map f (drop i xs)) ≡ read_from verb (map f (drop i xs)) o
  names_at verb o xs i x a lt is e plain =
      let at : map f (drop i xs) ≡ f x ∷ map f (drop (i + 1) xs) = ap (map f) (drop_more xs i x lt ∙ ap (λ y. y ∷ drop (i + 1) xs) (sym is)) in
      ap (command_with verb o) at ∙ sym (names_read verb o (f x) (map f (drop (i + 1) xs)) (sym (ap begins_with_dash e) ∙ plain)) ∙ sym (ap (λ l. read_from verb l o) at)

  -- or no word is left
  pub no_names_at : (verb : Verb) (o : Options) (xs : List X) (i : ℕ) → length xs ≤ i → command_with verb o (map f (drop i xs)) ≡ read_from verb (map f (drop i xs)) o
  no_names_at verb o xs i le =
      ap (λ l. command_with verb o (map f l)) (drop_all i xs le) ∙ sym (no_names verb o) ∙ sym (ap (λ l. read_from verb (map f l) o) (drop_all i xs le))
