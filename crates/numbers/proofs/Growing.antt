-- More digits write no less: what is written up to a digit, and it, is no more than what all digits write.
use Rattle.std.proofs.Common.{ℕ, ◌+◌, ◌*◌, ◌≤◌, ◌<◌, List, length, drop, get_or, length-take, ◌^◌, subst, sym, arith}
use Rattle.rules.specs.Rule.{bytes_of}
use Rattle.rules.specs.Numbers.{digit, written}
use Rattle.rules.specs.declared.Token.{Token}
use Rattle.rules.proofs.Numbers.{written_on, written_grows, hex_fits}

pub at_least : (base v : ℕ) (l : List ℕ) (i : ℕ) → 0 < base → i < length l → v * base + digit (get_or l i 0) ≤ written base v (drop i l)
at_least base v l i b h = subst (λ n. v * base + digit (get_or l i 0) ≤ n) (sym (written_on base v l i h)) (written_grows base (v * base + digit (get_or l i 0)) (drop (i + 1) l) b)

-- 16 digits of base 16 write a number that fits
pub sixteen : (s : List ℕ) (t : Token) → t.len ≤ 16 → written 16 0 (bytes_of s t) < 2 ^ 64
sixteen s t h = hex_fits (bytes_of s t) (let l = length-take t.len (drop t.start s) in omega arith)
