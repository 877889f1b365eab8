-- Worked cases of the definitions.
use Rattle.std.proofs.Common.{◌≡◌, ℕ, pos, List, [], ◌∷◌, Some, refl, inr}
use Rattle.std.specs.Prelude.{codes}
use Rattle.dap_tree.specs.Doc.{Doc, whole, text, object, no_members, member}
use Rattle.dap_tree.specs.Json.{HasNoReading, data_of}
use Rattle.dap_tree.specs.declared.side.Side.TheVariants.{Client, Adapter}
use Rattle.dap_normalise.specs.Accepting.{Payload}
use Rattle.dap_join.specs.Outputs.{Item, IsPart, Part, output, stopped, other}
use Rattle.dap_join.specs.Outputs.{part_of}
use Rattle.dap_join.specs.Joined.{Numbered, joined, joined_output}
use Rattle.dap_mask.specs.declared.joining.Joining.TheVariants.{Whole, PerStop}

-- ---- one event

-- The body of an `output` event with these members after its output.
abbrev output_event : Doc → Doc
output_event body = object (member (codes "body") body
    (member (codes "event") (text (codes "output"))
    (member (codes "seq") (whole (pos 7))
    (member (codes "type") (text (codes "event")) no_members))))

abbrev stopped_event : Doc
stopped_event = object (member (codes "event") (text (codes "stopped"))
    (member (codes "type") (text (codes "event")) no_members))

abbrev plain_body : Doc
plain_body = object (member (codes "output") (text (codes "hi")) no_members)

abbrev error_body : Doc
error_body = object (member (codes "category") (text (codes "stderr"))
    (member (codes "output") (text (codes "no")) no_members))

abbrev body_with_children : Doc
body_with_children = object (member (codes "output") (text (codes "hi"))
    (member (codes "variablesReference") (whole (pos 5)) no_members))

abbrev body_without_children : Doc
body_without_children = object (member (codes "output") (text (codes "hi"))
    (member (codes "variablesReference") (whole (pos 0)) no_members))

abbrev said : List ℕ → List ℕ → Part
said category s = output (record { seq = Some (pos 7); category = category; text = s })

with_category : part_of Adapter (output_event error_body) ≡ said (codes "stderr") (codes "no")
with_category = refl

without_category : part_of Adapter (output_event plain_body) ≡ said (codes "console") (codes "hi")
without_category = refl

with_children : part_of Adapter (output_event body_with_children) ≡ other
with_children = refl

without_children : part_of Adapter (output_event body_without_children)
    ≡ said (codes "console") (codes "hi")
without_children = refl

without_text : part_of Adapter (output_event (object no_members)) ≡ other
without_text = refl

of_the_client : part_of Client (output_event plain_body) ≡ other
of_the_client = refl

of_a_stop : part_of Adapter stopped_event ≡ stopped
of_a_stop = refl

-- An `output` event whose content is not read stays as it is.
unreadable : (content : List ℕ) → HasNoReading content → IsPart (Adapter, content) other
unreadable content none = inr (λ d read. none (data_of d) read.0, refl)

-- ---- the joined records

module _ (held : Payload) where
  abbrev item : ℕ → Part → Item
  item n part = record { number = n; held = held; part = part }

  abbrev says : ℕ → List ℕ → List ℕ → Item
  says n category s = item n (output (record { seq = Some (pos n); category = category; text = s }))

  abbrev same : ℕ → Numbered
  same n = record { number = n; held = held }

  abbrev joins : ℕ → List ℕ → List ℕ → Numbered
  joins n category s =
      joined_output (record { number = n; seq = Some (pos n); category = category; text = s })

  two_categories : joined Whole (item 1 other ∷ says 2 (codes "stdout") (codes "a")
      ∷ says 3 (codes "stderr") (codes "x") ∷ says 4 (codes "stdout") (codes "b")
      ∷ item 5 other ∷ [])
      ≡ same 1 ∷ same 5 ∷ joins 3 (codes "stderr") (codes "x")
      ∷ joins 2 (codes "stdout") (codes "ab") ∷ []
  two_categories = refl

  two_stops : joined PerStop (says 1 (codes "stdout") (codes "a") ∷ item 2 other ∷ item 3 stopped
      ∷ says 4 (codes "stdout") (codes "b") ∷ item 5 other ∷ says 6 (codes "stdout") (codes "c")
      ∷ item 7 stopped ∷ [])
      ≡ same 2 ∷ joins 1 (codes "stdout") (codes "a") ∷ same 3 ∷ same 5
      ∷ joins 4 (codes "stdout") (codes "bc") ∷ same 7 ∷ []
  two_stops = refl

  across_stops : joined Whole (says 1 (codes "stdout") (codes "a") ∷ item 2 stopped
      ∷ says 3 (codes "stdout") (codes "b") ∷ [])
      ≡ same 2 ∷ joins 1 (codes "stdout") (codes "ab") ∷ []
  across_stops = refl

  no_output : joined PerStop (item 1 other ∷ item 2 stopped ∷ item 3 other ∷ [])
      ≡ same 1 ∷ same 2 ∷ same 3 ∷ []
  no_output = refl
