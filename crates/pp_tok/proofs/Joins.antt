-- The characters of a file, a line at a time.
use Rattle.std.proofs.Common.{◌≡◌, ℕ, zero, suc, ◌+◌, ◌-◌, ◌<◌, ◌≤◌, Bool, true, false, ◌&&◌, ◌||◌, List, [], ◌∷◌, ◌++◌, append_assoc, append-nil, map, length, take, drop, refl, sym, ap, ◌∙◌, subst, arith}
use Rattle.std.specs.Prelude.{if◌then◌else◌, ◌==◌, slice_index, replicate}
use Rattle.std.proofs.lemmas.Bool.Decides.{nat_tests}
use Rattle.std.proofs.lemmas.List.{map-append, drop-drop, length-drop}
use Rattle.qv_base.specs.Place.{capped}
use Rattle.pp_tok.specs.declared.chars.Chars.{Chars}
use Rattle.pp_tok.specs.Chars.{Char, starts_with, without_returns, is_joined, line_behind, chars_behind, chars_from}
use Rattle.pp_tok.specs.CharVectors.{AreChars, Adds, Leaves, HasNoFeed, IsFirstFeed, on_line, ends_with, without_last, chars_of_line}

differs : (b : ℕ) → (b ≡ 10 → ⊥) → (b == 10) ≡ false
differs b other = grind (arith, nat_tests)

and_false : (j k : Bool) → k ≡ false → (j && k) ≡ false
and_false true k is = is
and_false false k is = refl

and_true : (j : Bool) → (j && true) ≡ j
and_true true = refl
and_true false = refl

or_false : (j k : Bool) → k ≡ false → (j || k) ≡ j
or_false true k is = refl
or_false false k is = is

-- the last byte

pub ends_with-last : (c x : ℕ) (ys : List ℕ) → ends_with c (ys ++ x ∷ []) ≡ (x == c)
ends_with-last c x [] = refl
ends_with-last c x (y ∷ []) = refl
ends_with-last c x (y ∷ z ∷ zs) = ends_with-last c x (z ∷ zs)

pub without_last-same : (c x : ℕ) (ys : List ℕ) → (x == c) ≡ true → without_last c (ys ++ x ∷ []) ≡ ys
without_last-same c x [] is = ap (λ k. if k then [] else x ∷ []) is
without_last-same c x (y ∷ []) is = ap (λ k. y ∷ (if k then [] else x ∷ [])) is
without_last-same c x (y ∷ z ∷ zs) is = ap (λ l. y ∷ l) (without_last-same c x (z ∷ zs) is)

pub without_last-other : (c x : ℕ) (ys : List ℕ) → (x == c) ≡ false → without_last c (ys ++ x ∷ []) ≡ ys ++ x ∷ []
without_last-other c x [] is = ap (λ k. if k then [] else x ∷ []) is
without_last-other c x (y ∷ []) is = ap (λ k. y ∷ (if k then [] else x ∷ [])) is
without_last-other c x (y ∷ z ∷ zs) is = ap (λ l. y ∷ l) (without_last-other c x (z ∷ zs) is)

one_or_none : (k : Bool) (b : ℕ) → (b ≡ 10 → ⊥) → HasNoFeed (if k then [] else b ∷ [])
one_or_none true b other = tt
one_or_none false b other = (other, tt)

HasNoFeed-without_last : (c : ℕ) (bs : List ℕ) → HasNoFeed bs → HasNoFeed (without_last c bs)
HasNoFeed-without_last c [] none = tt
HasNoFeed-without_last c (b ∷ []) none = one_or_none (b == c) b none.0
HasNoFeed-without_last c (b ∷ d ∷ bs) none = (none.0, HasNoFeed-without_last c (d ∷ bs) none.1)

-- carriage returns

without_returns-cons : (b : ℕ) (bs : List ℕ) (k : Bool) → (b == 13 && starts_with 10 bs) ≡ k → without_returns (b ∷ bs) ≡ (if k then [] else b ∷ []) ++ without_returns bs
unfolding without_returns
without_returns-cons b bs k is = ap (λ j. (if j then [] else b ∷ []) ++ without_returns bs) is

without_returns-nil : without_returns [] ≡ []
unfolding without_returns
without_returns-nil = refl

without_returns-feed : (bs rest : List ℕ) → HasNoFeed bs → without_returns (bs ++ 10 ∷ rest) ≡ without_last 13 bs ++ 10 ∷ without_returns rest
without_returns-feed [] rest none = without_returns-cons 10 rest false refl
without_returns-feed (b ∷ []) rest none =
    without_returns-cons b (10 ∷ rest) (b == 13) (and_true (b == 13)) ∙ ap (λ l. (if b == 13 then [] else b ∷ []) ++ l) (without_returns-cons 10 rest false refl)
without_returns-feed (b ∷ d ∷ bs) rest none =
    without_returns-cons b (d ∷ bs ++ 10 ∷ rest) false (and_false (b == 13) (d == 10) (differs d none.1.0)) ∙ ap (λ l. b ∷ l) (without_returns-feed (d ∷ bs) rest none.1)

no_feed_first : (bs : List ℕ) → HasNoFeed bs → starts_with 10 bs ≡ false
no_feed_first [] none = refl
no_feed_first (b ∷ bs) none = differs b none.0

without_returns-plain : (bs : List ℕ) → HasNoFeed bs → without_returns bs ≡ bs
without_returns-plain [] none = without_returns-nil
without_returns-plain (b ∷ bs) none = without_returns-cons b bs false (and_false (b == 13) (starts_with 10 bs) (no_feed_first bs none.1)) ∙ ap (λ l. b ∷ l) (without_returns-plain bs none.1)

-- backslashes

chars_behind-nil : (before n : ℕ) → chars_behind before n [] ≡ []
unfolding chars_behind
chars_behind-nil before n = refl

chars_behind-cons : (before n b : ℕ) (bs : List ℕ) → chars_behind before n (b ∷ bs) ≡ (if is_joined before b bs then [] else on_line n b ∷ []) ++ chars_behind b (line_behind b n) bs
unfolding chars_behind
chars_behind-cons before n b bs = refl

-- a byte that is no line feed
chars_behind-byte : (before n b : ℕ) (bs : List ℕ) (k : Bool) → (b == 92 && starts_with 10 bs) ≡ k → (b ≡ 10 → ⊥) → chars_behind before n (b ∷ bs) ≡ (if k then [] else on_line n b ∷ []) ++ chars_behind b n bs
chars_behind-byte before n b bs k is other =
    let joined : is_joined before b bs ≡ k =
    ap (λ j. (b == 92 && starts_with 10 bs) || (j && before == 92)) (differs b other) ∙ or_false (b == 92 && starts_with 10 bs) false refl ∙ is in
    chars_behind-cons before n b bs ∙ ap (λ j. (if j then [] else on_line n b ∷ []) ++ chars_behind b (line_behind b n) bs) joined
    ∙ ap (λ j. (if k then [] else on_line n b ∷ []) ++ chars_behind b (if j then capped (n + 1) else n) bs) (differs b other)

last_byte : (k : Bool) (n b : ℕ) (cs : List Char) → (if k then [] else on_line n b ∷ []) ++ cs ≡ map (on_line n) (if k then [] else b ∷ []) ++ cs
last_byte true n b cs = refl
last_byte false n b cs = refl

chars_behind-feed : (before n : ℕ) (bs rest : List ℕ) → HasNoFeed bs →
    chars_behind before n (bs ++ 10 ∷ rest) ≡ map (on_line n) (without_last 92 bs) ++ ((if ends_with 92 (before ∷ bs) then [] else on_line n 10 ∷ []) ++ chars_behind 10 (capped (n + 1)) rest)
chars_behind-feed before n [] rest none = chars_behind-cons before n 10 rest
chars_behind-feed before n (b ∷ []) rest none =
    let behind : List Char = (if b == 92 then [] else on_line n 10 ∷ []) ++ chars_behind 10 (capped (n + 1)) rest in
    chars_behind-byte before n b (10 ∷ rest) (b == 92) (and_true (b == 92)) none.0 ∙ ap (λ l. (if b == 92 then [] else on_line n b ∷ []) ++ l) (chars_behind-cons b n 10 rest) ∙ last_byte (b == 92) n b behind
chars_behind-feed before n (b ∷ d ∷ bs) rest none =
    chars_behind-byte before n b (d ∷ bs ++ 10 ∷ rest) false (and_false (b == 92) (d == 10) (differs d none.1.0)) none.0 ∙ ap (λ l. on_line n b ∷ l) (chars_behind-feed b n (d ∷ bs) rest none.1)

chars_behind-plain : (before n : ℕ) (bs : List ℕ) → HasNoFeed bs → chars_behind before n bs ≡ map (on_line n) bs
chars_behind-plain before n [] none = chars_behind-nil before n
chars_behind-plain before n (b ∷ bs) none =
    chars_behind-byte before n b bs false (and_false (b == 92) (starts_with 10 bs) (no_feed_first bs none.1)) none.0 ∙ ap (λ l. on_line n b ∷ l) (chars_behind-plain b n bs none.1)

-- lines

ends_with-start : (bs : List ℕ) → ends_with 92 (10 ∷ bs) ≡ ends_with 92 bs
ends_with-start [] = refl
ends_with-start (b ∷ bs) = refl

chars_from-line : (n : ℕ) (bs rest : List ℕ) → HasNoFeed bs → chars_from n (bs ++ 10 ∷ rest) ≡ chars_of_line n bs ++ chars_from (capped (n + 1)) rest
chars_from-line n bs rest none =
    let kept : List ℕ = without_last 13 bs in
    let front : List Char = map (on_line n) (without_last 92 kept) in
    let behind : List Char = chars_behind 10 (capped (n + 1)) (without_returns rest) in
    ap (chars_behind 10 n) (without_returns-feed bs rest none) ∙ chars_behind-feed 10 n kept (without_returns rest) (HasNoFeed-without_last 13 bs none)
    ∙ ap (λ k. front ++ ((if k then [] else on_line n 10 ∷ []) ++ behind)) (ends_with-start kept) ∙ sym (append_assoc front (if ends_with 92 kept then [] else on_line n 10 ∷ []) behind)

chars_from-last : (n : ℕ) (bs : List ℕ) → HasNoFeed bs → chars_from n bs ≡ map (on_line n) bs
chars_from-last n bs none = ap (chars_behind 10 n) (without_returns-plain bs none) ∙ chars_behind-plain 10 n bs none

-- characters are added

adds_more : {A : Type 0} (f : Char → A) (old new : List A) (xs rest all : List Char) → old ++ map f (xs ++ rest) ≡ map f all → new ≡ old ++ map f xs → new ++ map f rest ≡ map f all
adds_more f old new xs rest all leaves adds =
    ap (λ l. l ++ map f rest) adds ∙ append_assoc old (map f xs) (map f rest) ∙ sym (ap (λ l. old ++ l) (map-append f xs rest)) ∙ leaves

pub line_done : (old new : Chars) (n m : ℕ) (bytes bs rest : List ℕ) (all : List Char) → bytes ≡ bs ++ 10 ∷ rest → HasNoFeed bs → m ≡ capped (n + 1) → Leaves old (chars_from n bytes) all → Adds old new (chars_of_line n bs) → Leaves new (chars_from m rest) all
line_done old new n m bytes bs rest all cut none next leaves adds =
    let behind : List Char = chars_from (capped (n + 1)) rest in
    let whole : chars_from n bytes ≡ chars_of_line n bs ++ behind = ap (chars_from n) cut ∙ chars_from-line n bs rest none in
    let there : Leaves old (chars_of_line n bs ++ behind) all = subst (λ cs. Leaves old cs all) whole leaves in
    subst (λ k. Leaves new (chars_from k rest) all) (sym next) (record {
      text = adds_more (λ c. c.byte) old.text.items new.text.items (chars_of_line n bs) behind all there.text adds.text;
      lines = adds_more (λ c. c.line) old.lines.items new.lines.items (chars_of_line n bs) behind all there.lines adds.lines;
    })

adds_last : {A : Type 0} (f : Char → A) (old new : List A) (xs all : List Char) → old ++ map f xs ≡ map f all → new ≡ old ++ map f xs → new ≡ map f all
adds_last f old new xs all leaves adds = adds ∙ leaves

pub last_done : (old new : Chars) (n : ℕ) (bs : List ℕ) (all : List Char) → HasNoFeed bs → Leaves old (chars_from n bs) all → Adds old new (map (on_line n) bs) → AreChars new all
last_done old new n bs all none leaves adds =
    let there : Leaves old (map (on_line n) bs) all = subst (λ cs. Leaves old cs all) (chars_from-last n bs none) leaves in
    record { text = adds.text ∙ there.text; lines = adds.lines ∙ there.lines }

-- at the start
pub none_done : (chars : Chars) (all : List Char) → AreChars chars [] → Leaves chars all all
none_done chars all empty = record { text = ap (λ l. l ++ map (λ c. c.byte) all) empty.text; lines = ap (λ l. l ++ map (λ c. c.line) all) empty.lines }

-- bytes of one line
map-byte : (n : ℕ) (bs : List ℕ) → map (λ c. c.byte) (map (on_line n) bs) ≡ bs
map-byte n [] = refl
map-byte n (b ∷ bs) = ap (λ l. b ∷ l) (map-byte n bs)

map-line : (n : ℕ) (bs : List ℕ) → map (λ c. c.line) (map (on_line n) bs) ≡ replicate (length bs) n
map-line n [] = refl
map-line n (b ∷ bs) = ap (λ l. n ∷ l) (map-line n bs)

pub bytes_added : (old new : Chars) (n : ℕ) (bs : List ℕ) → new.text.items ≡ old.text.items ++ bs → new.lines.items ≡ old.lines.items ++ replicate (length bs) n → Adds old new (map (on_line n) bs)
bytes_added old new n bs text lines = record { text = text ∙ ap (λ l. old.text.items ++ l) (sym (map-byte n bs)); lines = lines ∙ ap (λ l. old.lines.items ++ l) (sym (map-line n bs)) }

appended : {A : Type 0} (f : Char → A) (a b c : List A) (xs ys : List Char) → b ≡ a ++ map f xs → c ≡ b ++ map f ys → c ≡ a ++ map f (xs ++ ys)
appended f a b c xs ys first second = second ∙ ap (λ l. l ++ map f ys) first ∙ append_assoc a (map f xs) (map f ys) ∙ ap (λ l. a ++ l) (sym (map-append f xs ys))

pub adds_both : (a b c : Chars) (xs ys : List Char) → Adds a b xs → Adds b c ys → Adds a c (xs ++ ys)
adds_both a b c xs ys first second = record {
  text = appended (λ d. d.byte) a.text.items b.text.items c.text.items xs ys first.text second.text;
  lines = appended (λ d. d.line) a.lines.items b.lines.items c.lines.items xs ys first.lines second.lines;
}

-- a line with its line feed, or without
pub line_added : (a b c : Chars) (n : ℕ) (bs : List ℕ) → ends_with 92 (without_last 13 bs) ≡ false → Adds a b (map (on_line n) (without_last 92 (without_last 13 bs))) → Adds b c (map (on_line n) (10 ∷ [])) → Adds a c (chars_of_line n bs)
line_added a b c n bs plain first second =
    subst (λ k. Adds a c (map (on_line n) (without_last 92 (without_last 13 bs)) ++ (if k then [] else on_line n 10 ∷ []))) (sym plain) (adds_both a b c (map (on_line n) (without_last 92 (without_last 13 bs))) (on_line n 10 ∷ []) first second)

pub join_added : (a b : Chars) (n : ℕ) (bs : List ℕ) → ends_with 92 (without_last 13 bs) ≡ true → Adds a b (map (on_line n) (without_last 92 (without_last 13 bs))) → Adds a b (chars_of_line n bs)
join_added a b n bs joined first =
    let front : List Char = map (on_line n) (without_last 92 (without_last 13 bs)) in
    subst (λ k. Adds a b (front ++ (if k then [] else on_line n 10 ∷ []))) (sym joined) (subst (λ cs. Adds a b cs) (sym (append-nil front)) first)

-- where the first line feed stands

pub no_feed_in : (bs : List ℕ) → ((k : ℕ) → k < length bs → (slice_index bs k == 10) ≡ true → ⊥) → HasNoFeed bs
no_feed_in [] none = tt
no_feed_in (b ∷ bs) none = ((λ is. none 0 (omega arith) (let e : (b == 10) ≡ true = grind (arith, nat_tests) in e)), no_feed_in bs (λ k lt. none (suc k) (omega arith)))

no_feed_before : (bs : List ℕ) (i : ℕ) → i < length bs → ((k : ℕ) → k < i → (slice_index bs k == 10) ≡ true → ⊥) → HasNoFeed (take i bs)
no_feed_before bs zero lt none = tt
no_feed_before [] (suc i) lt none = absurd (omega arith)
no_feed_before (b ∷ bs) (suc i) lt none = ((λ is. none 0 (omega arith) (let e : (b == 10) ≡ true = grind (arith, nat_tests) in e)), no_feed_before bs i (omega arith) (λ k less. none (suc k) (omega arith)))

cut_at : (bs : List ℕ) (i : ℕ) → i < length bs → slice_index bs i ≡ 10 → bs ≡ take i bs ++ 10 ∷ drop (suc i) bs
cut_at [] i lt is = absurd (omega arith)
cut_at (b ∷ bs) zero lt is = ap (λ x. x ∷ bs) is
cut_at (b ∷ bs) (suc i) lt is = ap (λ l. b ∷ l) (cut_at bs i (omega arith) is)

pub feed_found : (bytes : List ℕ) (at i : ℕ) → at ≤ length bytes → i < length (drop at bytes) → ((k : ℕ) → k < i → (slice_index (drop at bytes) k == 10) ≡ true → ⊥) → (slice_index (drop at bytes) i == 10) ≡ true → IsFirstFeed bytes at (at + i)
feed_found bytes at i within lt none is =
    let feed : slice_index (drop at bytes) i ≡ 10 = grind (arith, nat_tests) in
    let place : at + suc i ≡ at + i + 1 = omega arith in
    let count : i ≡ at + i - at = omega arith in
    let len : length (drop at bytes) ≡ length bytes - at = length-drop at bytes in
    record {
      low = omega arith;
      high = omega arith;
      cut =
          cut_at (drop at bytes) i lt feed ∙ ap (λ l. take i (drop at bytes) ++ 10 ∷ l) (drop-drop (suc i) at bytes ∙ ap (λ n. drop n bytes) place)
          ∙ ap (λ n. take n (drop at bytes) ++ 10 ∷ drop (at + i + 1) bytes) count;
      before = subst (λ n. HasNoFeed (take n (drop at bytes))) count (no_feed_before (drop at bytes) i lt none);
    }
