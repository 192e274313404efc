-- The hypotheses of the host's claims can be met: by a request of each command, on 01's bench card with all commands in
-- use. Assumes nothing.
use mathlib.Core.Path.{◌≡◌, refl}
use mathlib.Core.Bool.{Bool, true}
use mathlib.Core.List.{List, [], ◌∷◌, map}
use Prim.Native.Nat.{ℕ, ◌+◌}
use native.Mathlib.Omega.{arith}
use borrow.Author.Tests.{leb-true}
use lib.Dec.{leb}
use lib.ListN.{length, replicate}
use Rattle.theory.specs.Logic.{◌and◌}
use Rattle.theory.proofs.Tests.{both}
use Rattle.protocol.specs.Opcodes.{bit}
use Rattle.card.specs.Layout.{setup_of, in_use_of, is_marked}
use Rattle.card.specs.Sound.{is_sound}
use Rattle.frame.specs.Frame.{longest}
use Rattle.frame.specs.Ask.{reaches, attended}
use Rattle.host.specs.declared.Command.{Command}
use Rattle.host.specs.declared.Command.TheVariants as host
use Rattle.host.specs.Request.{sent_of, request_of}
use Rattle.demands.specs.Calls.{step}
use Rattle.demands.specs.Examples.{example_card, use_list}
use Rattle.demands.specs.Host.{inside, Takeable, TakenAs, ReadAs}
use Rattle.demands.proofs.Model.{model}
use Rattle.demands.proofs.Taken.{taken}
use Rattle.demands.proofs.ReadBack.{read-back}

bench : List ℕ
bench = (step example_card (use_list 0x3fc03)).0

bench-sound : is_sound bench ≡ true
unfolding model bench
bench-sound = refl

-- ---- a built request is taken ----

-- the hypotheses as one test
abbrev takes : Command × List ℕ → Bool
takes (x, list) =
    bit (in_use_of bench) (sent_of x).opcode
    and reaches (setup_of bench).members (sent_of x).opcode (sent_of x).member
    and attended (is_marked bench (sent_of x).member) (sent_of x).opcode
    and inside ((setup_of bench).gets + (setup_of bench).sets) x list
    and leb (length (request_of x list)) longest

takeable : (x : Command) (list : List ℕ) → takes (x, list) ≡ true → Takeable bench x list
takeable x list e =
    let p = both _ _ e in
    let q = both _ _ p.0 in
    let w = both _ _ q.0 in
    let r = both _ _ w.0 in
    record { sound = bench-sound; in_use = r.0; member = r.1; unmarked = w.1; fields = q.1; short = leb-true _ _ p.1 }

-- a request of each command: two headers are asked for, and five bytes given to be set
ten : List (Command × List ℕ)
ten =
    (host.ListQuery, [])
    ∷ (host.ListUse 3, [])
    ∷ (host.Create 1 1 0, [])
    ∷ (host.Modify 2 0 1, [])
    ∷ (host.Query 1 1, [])
    ∷ (host.Destroy 1 0, [])
    ∷ (host.Metadata 1 0 2, [])
    ∷ (host.Get 1 0 0, replicate 32 0)
    ∷ (host.Set 1 1, replicate 5 0)
    ∷ (host.SetMode 2 1, [])
    ∷ []

all_take : map takes ten ≡ replicate 10 true
unfolding model bench inside ten
all_take = refl

-- the claim at one of them
get-takes : takes (host.Get 1 0 0, replicate 32 0) ≡ true
unfolding model bench inside
get-takes = refl

get-taken : TakenAs bench (host.Get 1 0 0) (replicate 32 0)
get-taken = taken bench (host.Get 1 0 0) (replicate 32 0) (takeable (host.Get 1 0 0) (replicate 32 0) get-takes)

-- ---- the reply is read ----

type-is : (m id type : ℕ) → host.Metadata 1 0 2 ≡ host.Metadata m id type → type ≡ 2
type-is m id type e = cc

list_read : ReadAs bench (host.Metadata 1 0 2) [] 8 2
list_read = read-back bench (host.Metadata 1 0 2) [] 8 2 bench-sound (omega arith) (omega arith) type-is
