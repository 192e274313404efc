-- Two requests that ask the same of a card are answered alike: the list of a request counts with parts get, selected, and with
-- parts set alone. Assumes nothing.
use Rattle.std.specs.Prelude.{Result, Ok, Err}
use mathlib.Core.Path.{◌≡◌, refl, ap}
use mathlib.Core.Bool.{Bool}
use mathlib.Core.List.{List}
use Prim.Native.Nat.{ℕ}
use borrow.Author.Tests.{eqb-true}
use lib.Dec.{eqb}
use lib.ListN.{get_or}
use Rattle.theory.specs.Logic.{when◌then◌else◌, unless◌answer◌then◌}
use Rattle.theory.proofs.Tests.{if-cases, unless-cases}
use Rattle.protocol.specs.declared.Body.{Body}
use Rattle.protocol.specs.declared.Body.TheVariants as body
use Rattle.protocol.specs.declared.Metadata.{Metadata}
use Rattle.protocol.specs.declared.Metadata.TheVariants.{Size, Count, HeaderList}
use Rattle.protocol.specs.declared.Refusal.{Refusal}
use Rattle.protocol.specs.declared.Refusal.TheVariants.{NotLive, WrongKind}
use Rattle.protocol.specs.declared.ObjectKind.TheVariants.{Get, Set}
use Rattle.protocol.specs.declared.ReadOp.TheVariants.{QueryObject, GetMetadata, GetSelected, GetAll}
use Rattle.protocol.specs.declared.ChangeOp.TheVariants.{SetParts}
use Rattle.protocol.specs.Answers.{is_get}
use Rattle.std.specs.Prelude.{Option, Some, None}
use Rattle.objects.specs.Objects.{on_found}
use Rattle.member.specs.Objects.{lookup_of}
use Rattle.card.specs.Layout.{member_in}
use Rattle.reads.specs.Reads.{query_of, metadata_of, through_get}
use Rattle.frame.specs.declared.Ask.{Ask}
use Rattle.frame.specs.declared.Ask.TheVariants.{Read, Change}
use Rattle.frame.specs.Frame.{opcode_of, target_of, data_of, type_at, asked_list, given_list}
use Rattle.frame.specs.Fields.{metadata_is, create_in, modify_in, query_in, destroy_in, metadata_in, get_in, set_in, mode_in, use_in, fields_of}
use Rattle.frame.specs.Ask.{framed_of, ask_of}
use Rattle.reply.specs.Result.{result_of, result_given}
use Rattle.admin.specs.Command.{ask_in, effect, perform, respond}
use Rattle.protocol.specs.declared.ObjectKind.{ObjectKind}

-- a result that is no selection
module _ (q : ℕ) (l l' v : List ℕ) where
  abbrev SameResult : Result Body Refusal → Type 0
  SameResult x = result_given q l' v x ≡ result_given q l v x

  query-same : (x : Option ObjectKind) → SameResult (on_found x (λ k. Ok (body.Kind k)) (Err NotLive))
  unfolding result_of
  query-same None = refl
  query-same (Some k) = refl

  through_same : (x : Option ObjectKind) (b : Body) → SameResult (Ok b)
      → SameResult (on_found x (λ k. unless is_get k answer Err WrongKind then Ok b) (Err NotLive))
  unfolding result_of unless◌answer◌then◌
  through_same None b e = refl
  through_same (Some Get) b e = e
  through_same (Some Set) b e = refl

  metadata-same : (what : Metadata) → SameResult (Ok (metadata_of q what))
  unfolding result_of
  metadata-same Size = refl
  metadata-same Count = refl
  metadata-same HeaderList = refl

  all_same : SameResult (Ok body.All)
  unfolding result_of
  all_same = refl

-- two requests, and what is asked of a card: it comes to the same with both
module _ (c r s : List ℕ) where
  unfoldable pub Same : Result Ask Refusal → Type 0
  Same a = perform c s a ≡ perform c r a

  guarded : (t : Bool) (a : Refusal) (x : Result Ask Refusal) → Same x → Same (unless t answer Err a then x)
  unfolding Same perform
  guarded t a x f = unless-cases Same t (Err a) x (λ e. refl) (λ e. f)

  branch : (op k : ℕ) (x y : Result Ask Refusal) → (op ≡ k → Same x) → Same y → Same (when eqb op k then x else y)
  branch op k x y f g = if-cases Same (eqb op k) x y (λ e. f (eqb-true op k e)) (λ e. g)

  module _ (m id : ℕ) where
    query-read : Same (Ok (Read m (QueryObject id)))
    unfolding Same perform query_of
    query-read =
        ap (effect _ c) (query-same (member_in c m).queues (asked_list r) (asked_list s) (member_in c m).values (lookup_of (member_in c m) id))

    metadata-read : (what : Metadata) → Same (Ok (Read m (GetMetadata id what)))
    unfolding Same perform through_get
    metadata-read what =
        ap (effect _ c) (through_same (member_in c m).queues (asked_list r) (asked_list s) (member_in c m).values (lookup_of (member_in c m) id)
        (metadata_of (member_in c m).queues what) (metadata-same (member_in c m).queues (asked_list r) (asked_list s) (member_in c m).values what))

    all_read : Same (Ok (Read m (GetAll id)))
    unfolding Same perform through_get
    all_read =
        ap (effect _ c) (through_same (member_in c m).queues (asked_list r) (asked_list s) (member_in c m).values (lookup_of (member_in c m) id)
        body.All (all_same (member_in c m).queues (asked_list r) (asked_list s) (member_in c m).values))

    selected-read : asked_list s ≡ asked_list r → Same (Ok (Read m (GetSelected id)))
    unfolding Same perform
    selected-read e = rw e

    parts-set : given_list s ≡ given_list r → Same (Ok (Change m (SetParts id)))
    unfolding Same perform
    parts-set e = rw e

  -- m is the member that is named
  module _ (m op : ℕ) (asked : op ≡ 0x0f → (id : ℕ) → Same (Ok (Read m (GetSelected id)))) (given : op ≡ 0x10 → (id : ℕ) → Same (Ok (Change m (SetParts id)))) where
    get-same : (ids : ℕ) (d : List ℕ) → op ≡ 0x0f → Same (get_in ids m d)
    unfolding get_in
    get-same ids d o =
        guarded _ _ _ (if-cases Same _ _ _ (λ e. asked o _) (λ e. guarded _ _ _ (all_read m _)))

    -- the other changes and list use read no list
    fields-same : (ids : ℕ) (d : List ℕ) → Same (fields_of ids m op d)
    unfolding fields_of create_in modify_in query_in destroy_in metadata_in set_in mode_in use_in Same perform
    fields-same ids d =
        branch op 0x00 _ _ (λ o. refl) (branch op 0x01 _ _ (λ o. guarded _ _ _ refl)
        (branch op 0x0a _ _ (λ o. guarded _ _ _ refl) (branch op 0x0b _ _ (λ o. guarded _ _ _ refl)
        (branch op 0x0c _ _ (λ o. guarded _ _ _ (query-read m _)) (branch op 0x0d _ _ (λ o. guarded _ _ _ refl)
        (branch op 0x0e _ _ (λ o. guarded _ _ _ (metadata-read m _ (metadata_is (get_or d type_at 0)))) (branch op 0x0f _ _ (get-same ids d)
        (branch op 0x10 _ _ (λ o. guarded _ _ _ (given o _)) (guarded _ _ _ refl)))))))))

-- two requests that ask the same, with lists that come to the same where these count
module _ (c r s : List ℕ) (room : ℕ)
    (asked : opcode_of r ≡ 0x0f → (id : ℕ) → Same c r s (Ok (Read (target_of r) (GetSelected id))))
    (given : opcode_of r ≡ 0x10 → (id : ℕ) → Same c r s (Ok (Change (target_of r) (SetParts id))))
    (ask : ask_in c s ≡ ask_in c r) where
  done-same : Same c r s (ask_in c r)
  unfolding ask_in ask_of framed_of
  done-same =
      guarded c r s _ _ _ (guarded c r s _ _ _ (guarded c r s _ _ _ (guarded c r s _ _ _ (guarded c r s _ _ _
      (fields-same c r s (target_of r) (opcode_of r) asked given _ (data_of r))))))

  pub respond-alike : respond c s room ≡ respond c r room
  unfolding respond Same
  respond-alike = rw (ask, done-same)

-- with the same list
pub respond-same : (c r s : List ℕ) (room : ℕ)
    → (opcode_of r ≡ 0x0f → asked_list s ≡ asked_list r) → (opcode_of r ≡ 0x10 → given_list s ≡ given_list r) → ask_in c s ≡ ask_in c r
    → respond c s room ≡ respond c r room
respond-same c r s room asked given =
    respond-alike c r s room (λ o id. selected-read c r s (target_of r) id (asked o)) (λ o id. parts-set c r s (target_of r) id (given o))
