-- The bytes of a request: the opcode rows give their lengths, and what went into them comes out again. Assumes nothing.
use mathlib.Core.Path.{◌≡◌, refl}
use mathlib.Core.Bool.{Bool, true}
use mathlib.Core.List.{List, [], ◌++◌}
use Prim.Native.Nat.{ℕ, ◌+◌, ◌^◌, ◌≤◌, ◌<◌}
use native.Mathlib.Omega.{arith}
use borrow.Author.Tests.{leb-true}
use lib.Dec.{leb}
use lib.ListN.{length, replicate, length-append}
use lib.Seq.{length-take-le}
use Rattle.theory.specs.Logic.{when◌then◌else◌, ◌and◌}
use Rattle.theory.proofs.Tests.{by_cases, both}
use Rattle.wire.specs.Le.{bytes, number}
use Rattle.wire.proofs.Le.{le_bytes, length-bytes}
use Rattle.protocol.specs.Opcodes.{longest_fixed, opcode_rows, opcode_row, supported, fixed_size}
use Rattle.protocol.proofs.Rows.{supported-below, fixed-longest}
use Rattle.frame.specs.Frame.{data_at, kind_at, opcode_of, group_of, target_of, data_of}
use Rattle.host.specs.declared.Command.{Command}
use Rattle.host.specs.declared.Command.TheVariants.{ListQuery, ListUse, Create, Modify, Query, Destroy, Metadata, Get, Set, SetMode}
use Rattle.host.specs.declared.Sent.{Sent}
use Rattle.host.specs.Request.{sent_of, object_header, before, fixed_of, list_for, request, start_with, start_of, request_of}

-- ---- the frame ----

module _ (op group m : ℕ) (d : List ℕ) where
  pub length-request : length (request op group m d) ≡ data_at + length d
  unfolding request bytes
  length-request = omega arith

  pub opcode-request : op < 256 ^ 2 → opcode_of (request op group m d) ≡ op
  unfolding request bytes number
  opcode-request h = le_bytes 2 op h

  pub group-request : group < 256 ^ 2 → group_of (request op group m d) ≡ group
  unfolding request bytes number
  group-request h = le_bytes 2 group h

  pub target-request : m < 256 ^ 8 → target_of (request op group m d) ≡ m
  unfolding request bytes number
  target-request h = le_bytes 8 m h

  pub data-request : data_of (request op group m d) ≡ d
  unfolding request bytes
  data-request = refl

  pub append-request : (list : List ℕ) → request op group m d ++ list ≡ request op group m (d ++ list)
  unfolding request bytes
  append-request list = refl

-- ---- the opcode and its row ----

-- the opcode is supported, and the last field stands within the fixed fields and not behind more than the flags
abbrev stands : Sent → Bool
stands s = supported s.opcode and leb s.place (fixed_size s.opcode) and leb s.place kind_at

each_stands : (x : Command) → stands (sent_of x) ≡ true
unfolding sent_of supported fixed_size opcode_row opcode_rows ◌and◌
each_stands ListQuery = refl
each_stands (ListUse mask) = refl
each_stands (Create m id kind) = refl
each_stands (Modify m id kind) = refl
each_stands (Query m id) = refl
each_stands (Destroy m id) = refl
each_stands (Metadata m id what) = refl
each_stands (Get m id which) = refl
each_stands (Set m id) = refl
each_stands (SetMode m mode) = refl

module _ (x : Command) where
  pub command-supported : supported (sent_of x).opcode ≡ true
  command-supported = (both _ _ (both _ _ (each_stands x)).0).0

  pub opcode-small : (sent_of x).opcode < 256 ^ 2
  opcode-small = let h = supported-below (sent_of x).opcode command-supported in omega arith

  pub place_inside : (sent_of x).place ≤ fixed_size (sent_of x).opcode
  place_inside = leb-true _ _ (both _ _ (both _ _ (each_stands x)).0).1

  pub place-low : (sent_of x).place ≤ kind_at
  place-low = leb-true _ _ (both _ _ (each_stands x)).1

  pub fixed-most : fixed_size (sent_of x).opcode ≤ longest_fixed
  fixed-most = fixed-longest (sent_of x).opcode

-- ---- the data ----

before-long : (s : Sent) → s.place ≤ kind_at → length (before s) ≡ s.place
unfolding before object_header bytes
before-long s h = length-take-le s.place (object_header s.id ++ replicate 8 0) h

-- THE LAW of the opcode rows: the fixed fields are as long as the opcode's row says
pub fixed-long : (x : Command) → length (fixed_of (sent_of x)) ≡ fixed_size (sent_of x).opcode
unfolding fixed_of
fixed-long x =
    let h = place_inside x in
    rw (length-append, before-long (sent_of x) (place-low x), length-bytes) (omega arith)

pub start-long : (x : Command) → length (start_of x) ≡ data_at + fixed_size (sent_of x).opcode
unfolding start_with
start-long x = rw (length-request, fixed-long x)

pub request-long : (x : Command) (list : List ℕ) → length (request_of x list) ≡ data_at + fixed_size (sent_of x).opcode + length (list_for x list)
unfolding request_of
request-long x list = rw (length-append, start-long x)

-- ---- the list ----

pub list-none : (x : Command) → list_for x [] ≡ []
unfolding list_for when◌then◌else◌
list-none x = by_cases (opcode_row (sent_of x).opcode).listed (λ e. rw e) (λ e. rw e)

pub list-given : (x : Command) (list : List ℕ) → (opcode_row (sent_of x).opcode).listed ≡ true → list_for x list ≡ list
unfolding list_for when◌then◌else◌
list-given x list e = rw e
