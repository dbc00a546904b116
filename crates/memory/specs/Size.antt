-- How large memory may be. 01, "Calls, lent areas, refusals": N a power of two (exactly one bit set) from 8,192 to 16,777,216. Assumes nothing.
use Rattle.std.specs.Prelude.{◌≡◌, ℕ, ◌^◌, ◌≤◌, Bool, ◌&&◌, ◌==◌, count_ones, nat_le}

-- exactly one bit of n is set, and n is in bounds
unfoldable pub size_allowed : ℕ → Bool
size_allowed n = nat_le 8192 n && nat_le n 16777216 && count_ones n == 1

-- the same as a power of two: `proofs/Power.antt` shows that n has this exactly if `size_allowed n` is true
pub record Allowed (n : ℕ) : Type 0 where
  pub least : 8192 ≤ n
  pub most : n ≤ 16777216
  pub exponent : ℕ
  pub power : n ≡ 2 ^ exponent
