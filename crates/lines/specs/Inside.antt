-- What the private functions that read a line say: one digit more behind a number.
use Rattle.std.specs.Prelude.{ℕ, ◌+◌, ◌-◌, ◌*◌, ◌^◌, Bool, ◌&&◌, ltb}
use Rattle.lines.specs.Read.{is_digit}

-- a number with one digit more
abbrev pub with_digit : ℕ → ℕ → ℕ
with_digit before byte = before * 10 + (byte - 48)

-- whether the byte is a digit and leaves the number below 2⁶⁴
abbrev pub takes : ℕ → ℕ → Bool
takes before byte = is_digit byte && ltb (with_digit before byte) (2 ^ 64)
