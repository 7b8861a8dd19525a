-- The words with which vmMain is called.
use Rattle.std.specs.Prelude.{◌≡◌, ℕ, ◌^◌, ◌<◌, ◌≤◌, Bool, ◌&&◌, ◌==◌, nat_lt, List, length, All}
use Rattle.std.specs.List.{list_all}

-- 14 words below 2 ^ 32
abbrev pub is_call : List ℕ → Bool
is_call words = length words == 14 && list_all (λ w. nat_lt w (2 ^ 32)) words

-- 1 to 4,096 calls, each of 14 words below 2 ^ 32
pub record AreCalls (calls : List (List ℕ)) : Type 0 where
  pub some : 0 < length calls
  pub most : length calls ≤ 4096
  pub each : All (λ words. (length words ≡ 14) × All (λ w. w < 2 ^ 32) words) calls
