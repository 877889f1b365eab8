-- Why rules must be in order, and none misplaced: with these rules, masking a document again
-- changes it.
use Rattle.std.proofs.Common.{◌≡◌, ℕ, List, [], ◌∷◌, Some, None, refl}
use Rattle.std.specs.Prelude.{codes}
use Rattle.dap_tree.specs.Doc.{Doc, text, list, object, no_items, item, no_members, member}
use Rattle.dap_mask.specs.RuleSteps.{named, elements}
use Rattle.dap_profile.specs.declared.profile.Kind.TheVariants.{Event}
use Rattle.dap_mask.specs.Rules.{Rule}
use Rattle.dap_mask.specs.Masked.{masked}
use Rattle.dap_mask.specs.Texts.{digits, hex}
use Rattle.dap_mask.specs.declared.rules.Verb.TheVariants.{Blank}

-- `hex`, and then `digits`, at one place
hex_then_digits : digits (hex (codes "1xA")) ≡ codes "0xA"
hex_then_digits = refl

hex_then_digits_again : digits (hex (codes "0xA")) ≡ codes "0x0"
hex_then_digits_again = refl

-- in the other order, one application suffices
digits_then_hex : hex (digits (codes "1xA")) ≡ codes "0x0"
digits_then_hex = refl

abbrev event : List ℕ → List ℕ → Doc
event name body = object (member (codes "body") (text body) (member (codes "event") (text name)
    (member (codes "type") (text (codes "event")) no_members)))

-- two rules, of which the second changes the name of events
abbrev unsafe : List Rule
unsafe =
    record {
      verb = Blank;
      kind = Event;
      name = Some [];
      category = None;
      place = named (codes "body") ∷ [];
    }
    ∷ record {
      verb = Blank;
      kind = Event;
      name = None;
      category = None;
      place = named (codes "event") ∷ [];
    }
    ∷ []

renames : masked unsafe (event (codes "output") (codes "x")) ≡ event [] (codes "x")
renames = refl

renames_again : masked unsafe (event [] (codes "x")) ≡ event [] []
renames_again = refl

-- two rules, of which the second changes the names by which the first selects elements
abbrev renaming : List Rule
renaming =
    record {
      verb = Blank;
      kind = Event;
      name = None;
      category = None;
      place = named (codes "body") ∷ elements (Some []) ∷ named (codes "value") ∷ [];
    }
    ∷ record {
      verb = Blank;
      kind = Event;
      name = None;
      category = None;
      place = named (codes "body") ∷ elements None ∷ named (codes "name") ∷ [];
    }
    ∷ []

abbrev variable : List ℕ → List ℕ → Doc
variable name value = object (member (codes "body") (list (item (object (member (codes "name")
    (text name) (member (codes "value") (text value) no_members))) no_items))
    (member (codes "type") (text (codes "event")) no_members))

unnames : masked renaming (variable (codes "x") (codes "1")) ≡ variable [] (codes "1")
unnames = refl

unnames_again : masked renaming (variable [] (codes "1")) ≡ variable [] []
unnames_again = refl
