-- What the reader of replies leaves, for each of its two ends. Assumes nothing.
use mathlib.Core.Path.{◌≡◌}
use Prim.Native.Nat.{ℕ}
use Rattle.host.specs.declared.Head.{Head}
use Rattle.std.specs.Prelude.{Option, None, Some}
use Rattle.kajurnat.specs.Told.{told}

-- x is what was read, y what the definition gives
module _ (x y : Option Head) (s q t p : ℕ) (e : x ≡ y) where
  pub told-none : x ≡ None → ◌≡◌ {A = ℕ × (ℕ × (ℕ × (ℕ × ℕ)))} (1, (s, (q, (t, p)))) (told y s q t p)
  unfolding told
  told-none r = rw (← e, r)

  pub told-some : (h : Head) → x ≡ Some h
      → ◌≡◌ {A = ℕ × (ℕ × (ℕ × (ℕ × ℕ)))} (0, (h.status, (h.qualifier, (h.sent_status, h.sent_qualifier)))) (told y s q t p)
  unfolding told
  told-some h r = rw (← e, r)
