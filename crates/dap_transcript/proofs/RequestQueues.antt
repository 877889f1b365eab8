-- The queues of requests after a change, and what is read of a message.
use Rattle.std.proofs.Common.{◌≡◌, ℕ, ℤ, Bool, true, false, cond, ◌&&◌, List, [], ◌∷◌, ◌++◌, Option}
use Rattle.std.proofs.Common.{Some, None, refl, sym, ap, ap₂, ◌∙◌, append-nil, bytes_eq, nat_cmp}
use Rattle.std.specs.{BTreeMap.{BTreeMap, get_by}, Borrow.Bor, Cmp.Lexicographic.slice_cmp}
use Rattle.std.specs.Option.{option_map_or}
use Rattle.std.proofs.lemmas.Slice.Eq.{bytes_eq-Decides}
use Rattle.dap_tree.specs.{Side.same_side, declared.side.Side.Side}
use Rattle.dap_profile.specs.declared.profile.Kind.TheVariants.{Request, Response}
use Rattle.dap_message.specs.Message.{Sent}
use Rattle.dap_session.specs.Messages.{is_from, is_number, is_request, is_response, is_response_to}
use Rattle.dap_session.specs.Messages.{name_of, other, request_seq_of, same_kind}
use Rattle.dap_transcript.specs.Expected.{asks}
use Rattle.dap_transcript.specs.Requests.{IsNumbered, IsQueue, queue_of, requests, responds}
use Rattle.dap_transcript.specs.declared.open_requests.Asked.{Asked}
use Rattle.dap_transcript.specs.declared.tokens.Numbered.{Numbered}

-- ---- queues

module _ {D : Type 0} (items : D → List Asked) where
  abbrev pub items_of : Option D → List Asked
  items_of o = option_map_or items o []

  abbrev at : List ℕ → BTreeMap (Bor (List ℕ)) D → Option D
  at q m = get_by (λ k. slice_cmp nat_cmp q k.now) m

  pub queue_taken : (b : Bool) (q : List ℕ) (old : BTreeMap (Bor (List ℕ)) D)
      → items_of (cond b None (at q old)) ≡ cond b [] (queue_of items old q)
  queue_taken true q old = refl
  queue_taken false q old = refl

  pub queue_put : (b : Bool) (command q : List ℕ) (old mid : BTreeMap (Bor (List ℕ)) D)
      (queue : D) (a : Asked) → bytes_eq command q ≡ b
      → items queue ≡ queue_of items old command ++ a ∷ []
      → ((k : List ℕ)
      → queue_of items mid k ≡ cond (bytes_eq command k) [] (queue_of items old k))
      → items_of (cond b (Some queue) (at q mid)) ≡ queue_of items old q ++ cond b (a ∷ []) []
  queue_put true command q old mid queue a is now others =
      now ∙ ap (λ k. queue_of items old k ++ a ∷ []) ((bytes_eq-Decides command q).0 is)
  queue_put false command q old mid queue a is now others =
      others q ∙ ap (λ b. cond b [] (queue_of items old q)) is
      ∙ sym (append-nil (queue_of items old q))

  -- The queue of one command was changed.
  pub queue_set : (b : Bool) (command q : List ℕ) (answered : ℤ → Option ℕ)
      (all : List ℕ → List Asked) (old : BTreeMap (Bor (List ℕ)) D) (queue : D)
      → bytes_eq command q ≡ b → IsQueue answered (all command) (items queue)
      → IsQueue answered (all q) (queue_of items old q)
      → IsQueue answered (all q) (items_of (cond b (Some queue) (at q old)))
  queue_set true command q answered all old queue is here there = record {
    passed = here.passed;
    is = ap all (sym ((bytes_eq-Decides command q).0 is)) ∙ here.is;
    closed = here.closed;
  }
  queue_set false command q answered all old queue is here there = there

-- ---- what is added

pub none_added : (b c : Bool) (a : Asked) (queue : List Asked) → b ≡ false
    → queue ≡ queue ++ cond (b && c) (a ∷ []) []
none_added true c a queue h = absurd (cc)
none_added false c a queue h = sym (append-nil queue)

pub one_added : (b c : Bool) (a : Asked) (queue : List Asked) → b ≡ true
    → queue ++ cond c (a ∷ []) [] ≡ queue ++ cond (b && c) (a ∷ []) []
one_added true c a queue h = refl
one_added false c a queue h = absurd (cc)

pub none_noted : (b c : Bool) (x y : Option ℕ) → b ≡ false → y ≡ cond (b && c) x y
none_noted true c x y h = absurd (cc)
none_noted false c x y h = refl

pub one_noted : (b c : Bool) (x y : Option ℕ) → b ≡ true → cond c x y ≡ cond (b && c) x y
one_noted true c x y h = refl
one_noted false c x y h = absurd (cc)

-- ---- the message

all_three : (a b c : Bool) → ((a && b) && c) ≡ (a && b && c)
all_three true true c = refl
all_three true false c = refl
all_three false b c = refl

both_then : (a b c : Bool) → ((a && b) && c) ≡ (a && (b && c))
both_then true true c = refl
both_then true false c = refl
both_then false b c = refl

module _ (m : Sent) (x : Numbered) (is : IsNumbered m x) (side : Side) where
  pub response_is : (n : ℤ)
      → (responds side x.title && is_number x.request n) ≡ is_response_to side n m
  response_is n =
      ap₂ (λ k s. (same_kind Response k && same_side (other side) s) && is_number x.request n)
      is.kind is.side
      ∙ ap (λ r. (is_response m && is_from (other side) m) && is_number r n) is.request
      ∙ all_three (is_response m) (is_from (other side) m) (is_number (request_seq_of m) n)

  pub request_is : (command : List ℕ)
      → (requests side x.title && bytes_eq x.title.name.now command) ≡ asks side command m
  request_is command =
      ap₂ (λ k s. (same_kind Request k && same_side side s) && bytes_eq x.title.name.now command)
      is.kind is.side
      ∙ ap (λ (n : List ℕ). (is_request m && is_from side m) && bytes_eq n command) is.name
      ∙ both_then (is_request m) (is_from side m) (bytes_eq (name_of m) command)
