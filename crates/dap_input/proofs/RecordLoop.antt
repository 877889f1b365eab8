-- The invariant of reading the next record, and its possible results, for any kind of record.
use Rattle.std.proofs.Common.{◌≡◌, ◌≢◌, ◌⊎◌, inl, inr, ℕ, ◌+◌, ◌-◌, ◌<◌, ◌≤◌, true, false}
use Rattle.std.proofs.Common.{List, [], ◌∷◌, ◌++◌, length, take, drop, Option, Some, None}
use Rattle.std.proofs.Common.{Result, Ok, Err, refl, sym, ◌∙◌, ap, subst, arith, append_assoc}
use Rattle.std.proofs.Common.{append-nil, length-append, take-append-drop}
use Rattle.std.proofs.lemmas.Bool.{true≢false}
use Rattle.std.proofs.lemmas.List.{drop_all}
use Rattle.std.specs.Prelude.{MatchOption, is_some}
use Rattle.dap_device.specs.declared.device.Source.{Ghosts as Source}
use Rattle.dap_device.specs.Pieces.{HasReadSoFar, HasNextPiece, HasNoPiece, HasPassedLimit}
use Rattle.dap_device.specs.Pieces.{Window}
use Rattle.dap_device.specs.declared.reading.Stop.{Stop}
use Rattle.dap_device.specs.declared.reading.Stop.TheVariants.{End, Full, Failed}
use Rattle.dap_frame.specs.Grammar.{Grammar, IsItem, FailsAt}
use Rattle.dap_recording.specs.declared.record_fault.RecordCause.{RecordCause}
use Rattle.dap_recording.specs.declared.record_fault.RecordCause.TheVariants as cause
use Rattle.dap_input.specs.ItemReading.{GivesFedItem, GivesItem}
use Rattle.dap_input.specs.RecordSteps.{Finds, IsNeeded, ReadsNext, IsBetweenRecords, Stops}
use Rattle.dap_input.specs.declared.item_reader.FedItem.{FedItem}
use Rattle.dap_input.specs.declared.records.Records.{Records}
use Rattle.dap_input.specs.declared.refused.Refused.{Refused}
use Rattle.dap_input.specs.declared.refused.Refused.TheVariants.{InputTooLong, Record, ReadFault}
use Rattle.dap_input.specs.declared.refused.Refused.TheVariants.{Memory}
use Rattle.dap_input.proofs.Coming.{came_on, nothing_came}

-- The facts about a reader and the counts that are preserved, for any kind of record.
pub record AreCounted {I R : Type 0} (source : Source R) (old now : Records I) (before mid : R)
    : Type 0 where
  pub room : source.given mid + (now.pieces.limit - now.pieces.taken)
      ≤ source.given before + (old.pieces.limit - old.pieces.taken)
  pub no_failure : source.failures mid ≡ source.failures before
  pub number_is : now.number ≡ old.number

-- A chunk was received, and some of it was read.
pub counted_on : {I R : Type 0} (source : Source R) (old now next : Records I)
    (before mid after : R) (filled : Window)
    → AreCounted source old now before mid
    → HasNextPiece source now.pieces filled mid after
    → next.pieces.taken ≡ filled.taken → next.pieces.limit ≡ filled.limit → next.number ≡ now.number
    → AreCounted source old next before after
counted_on source old now next before mid after filled was got taken limit number_is =
    record {
      room =
          (let is_taken = ap (λ (w : Window). w.taken) got.window in
          let is_limit = ap (λ (w : Window). w.limit) got.window in
          let within = got.within in
          let more = got.came.counted in
          let room = was.room in
          omega (arith, taken, limit, is_taken, is_limit, within, more, room));
      no_failure = got.came.paused ∙ was.no_failure;
      number_is = number_is ∙ was.number_is;
    }

-- An option is `None` or `Some`.
pub nothing : {A : Type 0} (o : Option A) → is_some o ≡ false → o ≡ None
nothing None is = refl
nothing (Some whole) is = absurd (true≢false is)

-- The invariant of the search for the next record. These bytes were received, and no more than
-- required. The reader represents all of them except the unread ones.
pub record Looking {I A R : Type 0} (g : Grammar A RecordCause) (represents : I → List ℕ
    → Type 0) (source : Source R) (old now : Records I) (before mid : R) : Type 0 where
  pub more : List ℕ
  pub came : HasReadSoFar source before mid more None
  pub needed : IsNeeded g old.pieces.unread more
  pub taken : now.pieces.taken ≡ old.pieces.taken + length more
  pub within : now.pieces.taken ≤ now.pieces.limit
  pub limit_is : now.pieces.limit ≡ old.pieces.limit
  pub number_is : now.number ≡ old.number
  pub held : List ℕ
  pub split : old.pieces.unread ++ more ≡ held ++ now.pieces.unread
  pub reads : represents now.reader held
  pub goes_on : now.is_over ≡ false

module _ {I A R : Type 0} (g : Grammar A RecordCause) (represents : I → List ℕ
    → Type 0) (takes : List ℕ → Type 0)
    (opens : (reader : I) (bytes : List ℕ) → represents reader bytes → g.IsOpen bytes)
    (source : Source R) (old : Records I) (before : R) where
  abbrev pub At : Records I → R → Type 0
  At now mid = Looking g represents source old now before mid

  abbrev pub Gives : Records I → R → Result (Option A) Refused → Type 0
  Gives new after outcome = ReadsNext g represents takes source old new before after outcome

  pub at_start : IsBetweenRecords represents old → At old before
  at_start between = record {
    more = [];
    came = nothing_came source before;
    needed = inl refl;
    taken = omega arith;
    within = between.within;
    limit_is = refl;
    number_is = refl;
    held = [];
    split = append-nil old.pieces.unread;
    reads = between.reads;
    goes_on = between.goes_on;
  }

  module _ (now : Records I) (mid : R) (was : At now mid) where
    open_held : g.IsOpen was.held
    open_held = opens now.reader was.held was.reads

    -- if nothing is unread, the reader represents everything received
    all_held : now.pieces.unread ≡ [] → old.pieces.unread ++ was.more ≡ was.held
    all_held none = was.split ∙ ap (λ t. was.held ++ t) none ∙ append-nil was.held

    all_open : now.pieces.unread ≡ [] → g.IsOpen (old.pieces.unread ++ was.more)
    all_open none = subst (λ t. g.IsOpen t) (sym (all_held none)) open_held

    came_more : (after : R) (piece : List ℕ) (stop : Option Stop)
        → HasReadSoFar source mid after piece stop
        → HasReadSoFar source before after (was.more ++ piece) stop
    came_more after piece stop next =
        came_on source before mid after was.more piece stop was.came next

    came_none : (after : R) (stop : Option Stop)
        → HasReadSoFar source mid after [] stop
        → HasReadSoFar source before after was.more stop
    came_none after stop next =
        subst (λ more. HasReadSoFar source before after more stop)
        (append-nil was.more) (came_more after [] stop next)

    taken_within : old.pieces.taken + length was.more ≤ old.pieces.limit
    taken_within = omega (arith, was.taken, was.within, was.limit_is)

    -- ---- more was received, or the source stopped

    pub filled : (next : Records I) (after : R)
        → HasNextPiece source now.pieces next.pieces mid after
        → next.reader ≡ now.reader → next.number ≡ now.number → next.is_over ≡ now.is_over
        → At next after
    filled next after got reader_is number_is over_is = record {
      more = was.more ++ got.piece;
      came = came_more after got.piece None got.came;
      needed = needed_on got.needed;
      taken = ap (λ (w : Window). w.taken) got.window
          ∙ omega (arith, was.taken, length-append was.more got.piece);
      within = got.within;
      limit_is = ap (λ (w : Window). w.limit) got.window ∙ was.limit_is;
      number_is = number_is ∙ was.number_is;
      held = was.held;
      split = sym (append_assoc old.pieces.unread was.more got.piece)
          ∙ ap (λ t. t ++ got.piece) was.split ∙ append_assoc was.held now.pieces.unread got.piece
          ∙ ap (λ t. was.held ++ t) (sym (ap (λ (w : Window). w.unread) got.window));
      reads = subst (λ r. represents r was.held) (sym reader_is) was.reads;
      goes_on = over_is ∙ was.goes_on;
    }
      where
        needed_on : (got.piece ≡ []) ⊎ (now.pieces.unread ≡ [])
            → IsNeeded g old.pieces.unread (was.more ++ got.piece)
        needed_on (inl none) =
            subst (IsNeeded g old.pieces.unread)
            (sym (ap (λ t. was.more ++ t) none ∙ append-nil was.more)) was.needed
        needed_on (inr all) =
            let some = got.some in
            let unread : next.pieces.unread ≡ got.piece =
            ap (λ (w : Window). w.unread) got.window ∙ ap (λ t. t ++ got.piece) all in
            inr (
              was.more,
              got.piece,
              refl,
              omega (arith, some, ap length unread),
              got.few,
              all_open all,
            )

    module _ (new : Records I) (after : R) (none : now.pieces.unread ≡ []) (pieces_are : new.pieces
        ≡ now.pieces) (reader_is : new.reader ≡ now.reader) (number_is : new.number
        ≡ now.number) (over_is : new.is_over ≡ true) where
      same_limit : new.pieces.limit ≡ old.pieces.limit
      same_limit = ap (λ (w : Window). w.limit) pieces_are ∙ was.limit_is

      same_number : new.number ≡ old.number
      same_number = number_is ∙ was.number_is

      has_failed : HasReadSoFar source mid after [] (Some Failed)
          → Gives new after (Err ReadFault)
      has_failed next = record {
        more = was.more;
        stop = Some Failed;
        taken = λ same. absurd (let e = same in cc);
        over = over_is;
        came = came_none after (Some Failed) next;
        needed = was.needed;
        within = taken_within;
        limit_is = same_limit;
        finds = (refl, all_open none);
      }

      is_too_long : HasPassedLimit source now.pieces mid after
          → Gives new after (Err (InputTooLong new.number))
      is_too_long next = record {
        more = was.more ++ next.byte ∷ [];
        stop = Some Full;
        taken = λ same. absurd (let e = same in cc);
        over = over_is;
        came = came_more after (next.byte ∷ []) (Some Full) next.came;
        needed = inr (was.more, next.byte ∷ [], refl, omega arith, omega arith, all_open none);
        within = omega (
          arith,
          was.taken,
          was.limit_is,
          next.at_limit,
          length-append was.more (next.byte ∷ []),
        );
        limit_is = same_limit;
        finds = (
          same_number,
          refl,
          record {
            earlier = was.more;
            byte = next.byte;
            more_is = refl;
            is_open = all_open none;
          },
        );
      }

      has_ended : HasReadSoFar source mid after [] (Some End) → was.held ≡ []
          → Gives new after (Ok None)
      has_ended next nothing = record {
        more = was.more;
        stop = Some End;
        taken = λ same. absurd (let e = same in cc);
        over = over_is;
        came = came_none after (Some End) next;
        needed = was.needed;
        within = taken_within;
        limit_is = same_limit;
        finds = (refl, all_held none ∙ nothing, same_number);
      }

      is_cut : HasReadSoFar source mid after [] (Some End) → was.held ≢ []
          → Gives new after (Err (Record new.number cause.Cut))
      is_cut next some = record {
        more = was.more;
        stop = Some End;
        taken = λ same. absurd (let e = same in cc);
        over = over_is;
        came = came_none after (Some End) next;
        needed = was.needed;
        within = taken_within;
        limit_is = same_limit;
        finds = (same_number, refl, (λ empty. some (sym (all_held none) ∙ empty)), all_open none);
      }

      pub stopped : (stop : Stop) (outcome : Result (Option A) Refused)
          → HasNoPiece source now.pieces mid after stop → Stops represents new stop outcome
          → Gives new after outcome
      stopped Full outcome next reported = subst (Gives new after) (sym reported) (is_too_long next)
      stopped Failed outcome next reported = subst (Gives new after) (sym reported)
          (has_failed next)
      stopped End outcome next reported =
          by_held (reported was.held (subst (λ r. represents r was.held) (sym reader_is) was.reads))
        where
          by_held : ((was.held ≡ []) × (outcome ≡ Ok None))
              ⊎ ((was.held ≢ []) × (outcome ≡ Err (Record new.number cause.Cut)))
              → Gives new after outcome
          by_held (inl nothing) = subst (Gives new after) (sym nothing.1) (has_ended next nothing.0)
          by_held (inr some) = subst (Gives new after) (sym some.1) (is_cut next some.0)

    -- ---- the reader has read more

    abbrev pub Fed : FedItem A → I → Type 0
    Fed fed reader = (held : List ℕ) → represents now.reader held
        → GivesFedItem g represents held now.pieces.unread fed reader

    module _ (fed : FedItem A) (next : Records I) (gives : Fed fed next.reader)
        (window : next.pieces
        ≡ record {
          unread = drop fed.used now.pieces.unread;
          taken = now.pieces.taken;
          limit = now.pieces.limit;
        })
        (over_is : next.is_over ≡ now.is_over) where
      next_taken : next.pieces.taken ≡ old.pieces.taken + length was.more
      next_taken = ap (λ (w : Window). w.taken) window ∙ was.taken

      next_limit : next.pieces.limit ≡ old.pieces.limit
      next_limit = ap (λ (w : Window). w.limit) window ∙ was.limit_is

      next_within : next.pieces.taken ≤ next.pieces.limit
      next_within = omega (arith, next_taken, next_limit, was.taken, was.limit_is, was.within)

      abbrev IsFed : Option A → Type 0
      IsFed ended = MatchOption ended
          ((fed.used ≡ length now.pieces.unread)
          × represents next.reader (was.held ++ now.pieces.unread))
          (λ whole. IsItem g (was.held ++ take fed.used now.pieces.unread) whole
          × represents next.reader [])

      is_fed : (ended : Option A) → fed.item ≡ ended → IsFed ended
      is_fed ended same = subst IsFed same (gives was.held was.reads)

      pub read_all : fed.item ≡ None → next.number ≡ now.number → At next mid
      read_all unended number_is =
          let is = is_fed None unended in
          let none : next.pieces.unread ≡ [] =
          ap (λ (w : Window). w.unread) window
          ∙ drop_all fed.used now.pieces.unread (omega (arith, is.0)) in
          record {
            more = was.more;
            came = was.came;
            needed = was.needed;
            taken = next_taken;
            within = next_within;
            limit_is = next_limit;
            number_is = number_is ∙ was.number_is;
            held = was.held ++ now.pieces.unread;
            split = was.split
                ∙ sym (ap (λ t. (was.held ++ now.pieces.unread) ++ t) none
                ∙ append-nil (was.held ++ now.pieces.unread));
            reads = is.1;
            goes_on = over_is ∙ was.goes_on;
          }

      found_whole : (whole : A) → fed.item ≡ Some whole → next.number ≡ now.number + 1
          → Gives next mid (Ok (Some whole))
      found_whole whole ended number_is =
          let is = is_fed (Some whole) ended in
          let unread_is : next.pieces.unread ≡ drop fed.used now.pieces.unread =
          ap (λ (w : Window). w.unread) window in
          record {
            more = was.more;
            stop = None;
            came = was.came;
            needed = was.needed;
            within = taken_within;
            taken = λ same. next_taken;
            limit_is = next_limit;
            over = over_is ∙ was.goes_on;
            finds = (
              refl,
              record {
                front = was.held ++ take fed.used now.pieces.unread;
                split = was.split
                    ∙ ap (λ t. was.held ++ t) (sym (take-append-drop fed.used now.pieces.unread))
                    ∙ sym (append_assoc was.held (take fed.used now.pieces.unread)
                    (drop fed.used now.pieces.unread))
                    ∙ ap (λ t. (was.held ++ take fed.used now.pieces.unread) ++ t) (sym unread_is);
                is_record = is.0;
                between = record {
                  reads = is.1;
                  within = next_within;
                  goes_on = over_is ∙ was.goes_on;
                };
                number_is = number_is ∙ ap (λ n. n + 1) was.number_is;
              },
            );
          }

      pub found : is_some fed.item ≡ true → next.number ≡ now.number + 1
          → Gives next mid (Ok fed.item)
      found some number_is = by_whole fed.item refl some
        where
          by_whole : (ended : Option A) → fed.item ≡ ended → is_some ended ≡ true
              → Gives next mid (Ok ended)
          by_whole None same is = absurd (true≢false (sym is))
          by_whole (Some whole) same is = found_whole whole same number_is

    -- ---- the reader returned an error

    module _ (new : Records I) (pieces_are : new.pieces ≡ now.pieces) (over_is : new.is_over
        ≡ now.is_over) where
      same_taken : new.pieces.taken ≡ old.pieces.taken + length was.more
      same_taken = ap (λ (w : Window). w.taken) pieces_are ∙ was.taken

      kept_limit : new.pieces.limit ≡ old.pieces.limit
      kept_limit = ap (λ (w : Window). w.limit) pieces_are ∙ was.limit_is

      some_bytes : 0 < length now.pieces.unread → old.pieces.unread ++ was.more ≢ []
      some_bytes some none =
          omega (
            arith,
            some,
            ap length (sym was.split ∙ none),
            length-append was.held now.pieces.unread,
          )

      pub no_memory : 0 < length now.pieces.unread → takes (was.held ++ now.pieces.unread)
          → new.number ≡ now.number → Gives new mid (Err Memory)
      no_memory some content number_is =
          record {
            more = was.more;
            stop = None;
            came = was.came;
            needed = was.needed;
            within = taken_within;
            taken = λ same. same_taken;
            limit_is = kept_limit;
            over = over_is ∙ was.goes_on;
            finds = (
              refl,
              some_bytes some,
              number_is ∙ was.number_is,
              subst takes (sym was.split) content,
            );
          }

      abbrev Faulty : RecordCause → Type 0
      Faulty why =
          (held : List ℕ) → represents now.reader held → (place : ℕ)
          × FailsAt g (held ++ now.pieces.unread) why place

      is_faulty : (why : RecordCause)
          → Finds g represents takes old new (old.pieces.unread ++ was.more) was.more None
          (Err (Record now.number why))
          → Gives new mid (Err (Record now.number why))
      is_faulty why finds = record {
        more = was.more;
        stop = None;
        came = was.came;
        needed = was.needed;
        within = taken_within;
        taken = λ same. same_taken;
        limit_is = kept_limit;
        over = over_is ∙ was.goes_on;
        finds = finds;
      }

      -- The bytes prove the error that the reader returned.
      pub faulty : (why : RecordCause) (reader : I) → why ≢ cause.Memory
          → ((held : List ℕ) → represents now.reader held
          → GivesItem g represents held now.pieces.unread (Err why) reader)
          → Gives new mid (Err (Record now.number why))
      faulty cause.Cut reader other gives = absurd (gives was.held was.reads)
      faulty cause.Memory reader other gives = absurd (other refl)
      faulty why reader other gives =
          is_faulty why (
            was.number_is,
            refl,
            subst (λ t. (place : ℕ) × FailsAt g t why place) (sym was.split)
                (gives was.held was.reads),
          )
