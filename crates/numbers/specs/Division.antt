-- What a quotient by the prime is computed with. No reader of a promise needs this page.
use Rattle.std.specs.Prelude.{ℕ, ◌+◌, ◌*◌, ◌-◌}

-- 2^78 over the prime that m chooses, rounded up: 3,498,089,733,719,803,397 at 1 and 999,445,946,923,294,369 at 2
abbrev pub scale : ℕ → ℕ
scale m = 999445946923294369 + 2498643786796509028 * (2 - m)
