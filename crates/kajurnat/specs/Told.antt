-- What the reader of replies answers, and what it leaves in the four numbers lent to it: 0 and what was read, or 1 and the
-- numbers as they were. Assumes nothing.
use Rattle.std.specs.Prelude.{Option, None, Some, ℕ}
use Rattle.host.specs.declared.Head.{Head}

-- status and qualifier to act on, and as they were sent
unfoldable pub told : Option Head → ℕ → ℕ → ℕ → ℕ → ℕ × (ℕ × (ℕ × (ℕ × ℕ)))
told None status qualifier sent_status sent_qualifier = (1, (status, (qualifier, (sent_status, sent_qualifier))))
told (Some h) status qualifier sent_status sent_qualifier =
    (0, (h.status, (h.qualifier, (h.sent_status, h.sent_qualifier))))
