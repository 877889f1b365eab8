-- The model of a mask, and the possible meanings of a line of a rules file.
use Rattle.std.specs.Prelude.{ℕ, ◌+◌, Bool, true, false, cond, ◌&&◌, ◌||◌, List, [], ◌∷◌, ◌++◌}
use Rattle.std.specs.Prelude.{Option, Some, None, length, option_map, string_bytes, is_some}
use Rattle.dap_tree.specs.Doc.{Doc}
use Rattle.dap_words.specs.Words.{Pair, pair_of}
use Rattle.dap_message.specs.{Rows.is_of_kind, SwapRules.{SwapRule, swap_of}}
use Rattle.dap_profile.specs.declared.profile.Kind.TheVariants.{Event}
use Rattle.dap_mask.specs.Categories.{CategoryRule, category_of, is_dropped_by}
use Rattle.dap_mask.specs.Declarations.{Declaration, declaration_of}
use Rattle.dap_mask.specs.{Fills.{Fill, fill_of}, Omissions.{Omission, omission_of}}
use Rattle.dap_mask.specs.Rules.{Rule, rule_of, is_event_of, inserted}
use Rattle.dap_mask.specs.declared.joining.Joining.{Joining}
use Rattle.dap_mask.specs.declared.statement.Line.{Line as ReadLine}
use Rattle.dap_mask.specs.declared.statement.Line.TheVariants.{Nothing, Rule as ReadRule, Bad}
use Rattle.dap_mask.specs.declared.statement.Statement.{Statement as ReadStatement}
use Rattle.dap_mask.specs.declared.statement.Statement.TheVariants.{Change, LeaveOut, Swap}
use Rattle.dap_mask.specs.declared.statement.Statement.TheVariants.{LeaveOutCategory, PerStop}
use Rattle.dap_mask.specs.declared.statement.Statement.TheVariants.{Join, Put, Fill as ReadFill}
use Rattle.dap_mask.specs.declared.statement.Statement.TheVariants.{Omit, Declare}

-- The rules that change values, in the order in which they apply; the names of the events that are
-- dropped (`None` is any name), and the rules that drop the events of one category; and the rules
-- for the order of messages, which masking does not use. `per_stop` says that ids are numbered
-- again from each stop, and `joining` how output is joined, if it is; masking does not use them
-- either. The words are put in the place of texts before the rules apply, and then the rules in
-- `fills` set members that are absent or null. The rules in `omissions` omit elements after the
-- changes. The declared ids get names after all other rules, and masking does not use them.
pub record Mask : Type 0 where
  pub changes : List Rule
  pub dropped : List (Option (List ℕ))
  pub categories : List CategoryRule
  pub swaps : List SwapRule
  pub per_stop : Bool
  pub joining : Option Joining
  pub words : List Pair
  pub fills : List Fill
  pub omissions : List Omission
  pub declared : List Declaration

abbrev pub no_rules : Mask
no_rules = record {
  changes = [];
  dropped = [];
  categories = [];
  swaps = [];
  per_stop = false;
  joining = None;
  words = [];
  fills = [];
  omissions = [];
  declared = [];
}

abbrev pub rule_count : Mask → ℕ
rule_count m =
    length m.changes + length m.dropped + length m.categories + length m.swaps
    + cond m.per_stop 1 0 + cond (is_some m.joining) 1 0 + length m.words
    + length m.fills + length m.omissions + length m.declared

-- The message is dropped (own): an event of one of the names, or of the name and the category of a
-- rule.
abbrev pub leaves_out : Mask → Doc → Bool
leaves_out m d = is_of_kind Event d && (is_event_of m.dropped d || is_dropped_by m.categories d)

-- A rule in a line of a rules file: a change, events that are dropped, by their name alone or by
-- their category too, a rule for the order, ids that are numbered again from each stop, output that
-- is joined, a text and its word, a member that is set if it is absent or null, elements that are
-- omitted, or declared ids.
pub data Statement : Type 0 where
  change : Rule → Statement
  leave_out : Option (List ℕ) → Statement
  leave_out_category : CategoryRule → Statement
  swap : SwapRule → Statement
  restart : Statement
  join : Joining → Statement
  put : Pair → Statement
  fill : Fill → Statement
  omit : Omission → Statement
  declare : Declaration → Statement

-- The mask with one more rule: a change at its place in the order in which changes apply, another
-- rule after the others of its kind.
abbrev pub with_rule : Mask → Statement → Mask
with_rule m (change r) = record m { changes = inserted r m.changes }
with_rule m (leave_out n) = record m { dropped = m.dropped ++ n ∷ [] }
with_rule m (leave_out_category c) = record m { categories = m.categories ++ c ∷ [] }
with_rule m (swap s) = record m { swaps = m.swaps ++ s ∷ [] }
with_rule m restart = record m { per_stop = true }
with_rule m (join j) = record m { joining = Some j }
with_rule m (put p) = record m { words = m.words ++ p ∷ [] }
with_rule m (fill f) = record m { fills = m.fills ++ f ∷ [] }
with_rule m (omit o) = record m { omissions = m.omissions ++ o ∷ [] }
with_rule m (declare x) = record m { declared = m.declared ++ x ∷ [] }

-- The meaning of a line.
pub data Line : Type 0 where
  nothing : Line
  rule : Statement → Line
  bad : Line

-- ---- the models of the program's types

abbrev pub statement_of : ReadStatement → Statement
statement_of (Change r) = change (rule_of r)
statement_of (LeaveOut n) = leave_out (option_map string_bytes n)
statement_of (LeaveOutCategory c) = leave_out_category (category_of c)
statement_of (Swap s) = swap (swap_of s)
statement_of PerStop = restart
statement_of (Join j) = join j
statement_of (Put w) = put (pair_of w)
statement_of (ReadFill f) = fill (fill_of f)
statement_of (Omit o) = omit (omission_of o)
statement_of (Declare x) = declare (declaration_of x)

abbrev pub line_of : ReadLine → Line
line_of Nothing = nothing
line_of (ReadRule st) = rule (statement_of st)
line_of Bad = bad
