-- Where the sections of a case file stand: no offset is large, since every count is narrow.
use Rattle.std.proofs.Common.{ℕ, ◌*◌, ◌≤◌, mul-le-mul}

-- rows of at most 512 bytes, each number below 65536
pub rows_small : (r size : ℕ) → r ≤ 65535 → size ≤ 512 → r * size ≤ 65535 * 512
rows_small r size h k = mul-le-mul h k
