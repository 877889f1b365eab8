-- Whatever the chunks are, a reader of items returns the values of the stream that they form.
use Rattle.std.proofs.Common.{◌≡◌, ℕ, List, [], ◌∷◌, ◌++◌, take, drop, refl, sym, ap, ◌∙◌}
use Rattle.std.specs.List.{concat}
use Rattle.std.proofs.lemmas.List.{append_assoc, append-nil, take-append-drop}
use Rattle.dap_frame.specs.Grammar.{Grammar, IsGrammar, ParsesAs, IsStream, FailsAt}
use Rattle.dap_frame.specs.ItemFeeding.{Calls, Feeds, begun, next_piece, fed_on, refused}
use Rattle.dap_frame.proofs.Ends.{open_has_no_item}
use Rattle.dap_frame.proofs.ItemStreams.{items_append, faulty_stream}

-- The conditions for a reader. `Stands state values rest` states that the state represents `rest`,
-- the bytes received after items with these values.
pub record IsReader {State Fed Value Fault : Type 0} (g : Grammar Value Fault)
    (calls : Calls State Fed Value) (Stands : State → List Value → List ℕ → Type 0) : Type 0 where
  pub is_open : (state : State) (values : List Value) (rest : List ℕ) → Stands state values rest
      → g.IsOpen rest
  pub takes : (old new : State) (values : List Value) (rest piece : List ℕ) (fed : Fed)
      → Stands old values rest → calls.Took old piece fed new
      → (items : List ℕ) × (behind : List ℕ) × ParsesAs g items (calls.given fed)
      × (rest ++ take (calls.used fed) piece ≡ items ++ behind)
      × Stands new (values ++ calls.given fed) behind
  pub refuses : (old new : State) (values : List Value) (rest piece : List ℕ)
      → Stands old values rest → calls.Refused old piece new → Stands new values rest

-- Everything except the remaining chunks is items with these values and a rest that the state
-- represents.
pub record ReadSoFar {State Value Fault : Type 0} (g : Grammar Value Fault) (Stands : State
    → List Value → List ℕ → Type 0)
    (whole : List ℕ) (values : List Value) (left : List (List ℕ)) (state : State) : Type 0 where
  pub front : List ℕ
  pub rest : List ℕ
  pub items : ParsesAs g front values
  pub whole_is : whole ≡ front ++ (rest ++ concat left)
  pub represents : Stands state values rest

module _ {State Fed Value Fault : Type 0} {g : Grammar Value Fault} (is : IsGrammar g)
    {calls : Calls State Fed Value}
    {Stands : State → List Value → List ℕ → Type 0} (reader : IsReader g calls Stands) where
  pub read_so_far : (first : State) (held : List ℕ) (pieces : List (List ℕ)) (values : List Value)
      (left : List (List ℕ)) (state : State)
      → Stands first [] held → Feeds calls first pieces values left state
      → ReadSoFar g Stands (held ++ concat pieces) values left state
  read_so_far first held pieces _ _ _ represents begun =
      record { front = []; rest = held; items = refl; whole_is = refl; represents = represents }
  read_so_far first held pieces values left state represents (next_piece feeds) =
      let was = read_so_far first held pieces values ([] ∷ left) state represents feeds in
      record {
        front = was.front;
        rest = was.rest;
        items = was.items;
        whole_is = was.whole_is;
        represents = was.represents;
      }
  read_so_far first held pieces _ _ new represents
      (fed_on {values = values} {left = left} {state = state} piece fed feeds took) =
      let was = read_so_far first held pieces values (piece ∷ left) state represents feeds in
      let goes = reader.takes state new values was.rest piece fed was.represents took in
      let used : ℕ = calls.used fed in
      let behind : List ℕ = drop used piece ++ concat left in
      record {
        front = was.front ++ goes.0;
        rest = goes.1;
        items = items_append g was.front goes.0 values (calls.given fed) was.items goes.2;
        whole_is = was.whole_is
            ∙ ap (λ xs. was.front ++ (was.rest ++ (xs ++ concat left)))
            (sym (take-append-drop used piece))
            ∙ ap (λ xs. was.front ++ (was.rest ++ xs))
            (append_assoc (take used piece) (drop used piece) (concat left))
            ∙ ap (λ xs. was.front ++ xs) (sym (append_assoc was.rest (take used piece) behind)
            ∙ ap (λ xs. xs ++ behind) goes.3 ∙ append_assoc goes.0 goes.1 behind)
            ∙ sym (append_assoc was.front goes.0 (goes.1 ++ behind));
        represents = goes.4;
      }
  read_so_far first held pieces values _ new represents
      (refused {left = left} {state = state} piece feeds again) =
      let was = read_so_far first held pieces values (piece ∷ left) state represents feeds in
      record {
        front = was.front;
        rest = was.rest;
        items = was.items;
        whole_is = was.whole_is;
        represents = reader.refuses state new values was.rest piece was.represents again;
      }

  -- after all chunks are used
  pub any_pieces : (first last : State) (held : List ℕ) (pieces : List (List ℕ))
      (values : List Value)
      → Stands first [] held → Feeds calls first pieces values [] last
      → (rest : List ℕ) × IsStream g (held ++ concat pieces) values rest × Stands last values rest
  any_pieces first last held pieces values represents feeds =
      let was = read_so_far first held pieces values [] last represents feeds in (
        was.rest,
        record {
          front = was.front;
          items = was.items;
          whole = was.whole_is ∙ ap (λ xs. was.front ++ xs) (append-nil was.rest);
          no_item = open_has_no_item is was.rest
              (reader.is_open last values was.rest was.represents);
        },
        was.represents,
      )

  -- if the rest and the next chunk prove an error
  pub fault_in_any_pieces : (whole piece : List ℕ) (values : List Value) (left : List (List ℕ))
      (state : State) (fault : Fault) (i : ℕ)
      → (was : ReadSoFar g Stands whole values (piece ∷ left) state)
      → FailsAt g (was.rest ++ piece) fault i
      → (rest : List ℕ) × IsStream g whole values rest × FailsAt g rest fault i
  fault_in_any_pieces whole piece values left state fault i was =
      faulty_stream is whole was.front was.rest piece (concat left) values fault i was.items
      was.whole_is
