-- A value that is handed back as a part of one of two lent lists, with no copy made. 02, request 7. Assumes nothing.
use Rattle.std.specs.Prelude.{◌≡◌, Ok, Err, List, [], ℕ, ◌+◌, ◌≤◌, length}
use Rattle.std.specs.Borrow.{Bor}
use Rattle.theory.specs.Bytes.{bytes_at}
use Rattle.difference.specs.declared.Place.TheVariants.{Later, Full}
use Rattle.difference.specs.Difference.{Lookup}

-- r is so many bytes of a lent list from a place on, in the same memory
pub record PartOf (list : Bor (List ℕ)) (start len : ℕ) (r : Bor (List ℕ)) : Type 0 where
  pub block : r.ref_ptr.0 ≡ list.ref_ptr.0
  pub offset : r.ref_ptr.1 ≡ list.ref_ptr.1 + start
  pub bytes : r.now ≡ bytes_at start len list.now

-- the part that a lookup says, or an empty one where it is refused
unfoldable pub Handed : Bor (List ℕ) → Bor (List ℕ) → Lookup → Bor (List ℕ) → Type 0
Handed full later (Ok (Later start len)) r = PartOf later start len r
Handed full later (Ok (Full start len)) r = PartOf full start len r
Handed full later (Err e) r = r.now ≡ []

-- it lies within its list
unfoldable pub Inside : List ℕ → List ℕ → Lookup → Type 0
Inside full later (Ok (Later start len)) = start + len ≤ length later
Inside full later (Ok (Full start len)) = start + len ≤ length full
Inside full later (Err e) = Unit {0}
