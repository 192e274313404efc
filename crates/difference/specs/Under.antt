-- The calls of request 7 under a setup: they go by the inventory of one member of it, and a bad setup, or a number that is no
-- member's, is the first refusal. 02, requests 7 and 9. Assumes nothing.
use Rattle.std.specs.Prelude.{List, ℕ, Option, Some, None, Err}
use Rattle.setups.specs.declared.MemberSetup.{MemberSetup}
use Rattle.difference.specs.declared.Refusal.TheVariants.{BadSetup}
use Rattle.difference.specs.Difference.{Lookup, number_of, lookup_of, merge_of}

-- s is what the setup says of the member
unfoldable pub lookup_under : Option MemberSetup → List ℕ → List ℕ → ℕ → ℕ → Lookup
lookup_under None full later t selector = Err BadSetup
lookup_under (Some s) full later t selector = lookup_of s.queues s.features full later t selector

unfoldable pub merge_under : Option MemberSetup → List ℕ → List ℕ → List ℕ → ℕ × (ℕ × List ℕ)
merge_under None full later out = (number_of BadSetup, (0, out))
merge_under (Some s) full later out = merge_of s.queues s.features full later out
