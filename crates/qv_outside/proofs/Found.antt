-- Steps of a search for a name.
use Rattle.std.proofs.Common.{◌≡◌, ℕ, ◌+◌, ◌<◌, ◌≤◌, List, ◌∷◌, length, get_or, drop, Some, None, true, false, cond, sym, ap, ◌∙◌}
use Rattle.std.specs.Global.{Vec}
use Rattle.std.specs.Str.{bytes_eq}
use Rattle.std.specs.FinMap as map
use Rattle.std.specs.FinMap.{get-from_entries}
use Rattle.std.proofs.lemmas.Cmp.{nat_list_cmp_total}
use Rattle.std.proofs.lemmas.List.{at_drop_more, at_drop_all}
use Rattle.std.proofs.lemmas.Map.Text.{is_eq-slice_cmp}
use Rattle.qv_outside.specs.Entries.{entries_of}
use Rattle.qv_outside.specs.FileMap.{name_order, content, FileMap}

pub find_step : (name : List ℕ) (xs : List (List ℕ × Vec ℕ)) (i : ℕ) (x : List ℕ × Vec ℕ) → i < length xs → x ≡ get_or xs i x → map.find name_order name (entries_of (drop i xs)) ≡ cond (bytes_eq name x.0) (Some x.1.items) (map.find name_order name (entries_of (drop (i + 1) xs)))
find_step name xs i x lt is =
    at_drop_more (λ (l : List (List ℕ × Vec ℕ)). map.find name_order name (entries_of l)) xs i x lt
    ∙ ap (λ (y : List ℕ × Vec ℕ). map.find name_order name (entries_of (y ∷ drop (i + 1) xs))) (sym is)
    ∙ ap (λ b. cond b (Some x.1.items) (map.find name_order name (entries_of (drop (i + 1) xs)))) (is_eq-slice_cmp name x.0)

pub find_end : (name : List ℕ) (xs : List (List ℕ × Vec ℕ)) (i : ℕ) → length xs ≤ i → map.find name_order name (entries_of (drop i xs)) ≡ None
find_end name xs i le = at_drop_all (λ (l : List (List ℕ × Vec ℕ)). map.find name_order name (entries_of l)) xs i le

pub content_is : (name : List ℕ) (xs : List (List ℕ × Vec ℕ)) → content (map.from_entries {R = name_order} (entries_of xs)) name ≡ map.find name_order name (entries_of xs)
content_is name xs = get-from_entries nat_list_cmp_total (entries_of xs) name

pub found_here : (name : List ℕ) (xs : List (List ℕ × Vec ℕ)) (i : ℕ) (x : List ℕ × Vec ℕ) → i < length xs → x ≡ get_or xs i x → bytes_eq name x.0 ≡ true → map.find name_order name (entries_of xs) ≡ map.find name_order name (entries_of (drop i xs)) → map.find name_order name (entries_of xs) ≡ Some x.1.items
found_here name xs i x lt is same e = e ∙ find_step name xs i x lt is ∙ ap (λ b. cond b (Some x.1.items) (map.find name_order name (entries_of (drop (i + 1) xs)))) same

pub found_later : (name : List ℕ) (xs : List (List ℕ × Vec ℕ)) (i : ℕ) (x : List ℕ × Vec ℕ) → i < length xs → x ≡ get_or xs i x → bytes_eq name x.0 ≡ false → map.find name_order name (entries_of xs) ≡ map.find name_order name (entries_of (drop i xs)) → map.find name_order name (entries_of xs) ≡ map.find name_order name (entries_of (drop (i + 1) xs))
found_later name xs i x lt is other e = e ∙ find_step name xs i x lt is ∙ ap (λ b. cond b (Some x.1.items) (map.find name_order name (entries_of (drop (i + 1) xs)))) other

-- the content of the map that the entries stand for
pub content_of : (name : List ℕ) (xs ys : List (List ℕ × Vec ℕ)) (files : FileMap) → map.from_entries {R = name_order} (entries_of xs) ≡ files → ys ≡ xs → content files name ≡ map.find name_order name (entries_of ys)
content_of name xs ys files e f = ap (λ m. content m name) (sym e) ∙ content_is name xs ∙ ap (λ (l : List (List ℕ × Vec ℕ)). map.find name_order name (entries_of l)) (sym f)
