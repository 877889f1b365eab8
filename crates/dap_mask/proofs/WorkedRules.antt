-- Examples of lines of rules files: their meaning by the grammar, and the result of the parser.
use Rattle.std.proofs.Common.{◌≡◌, ℕ, Bool, true, false, ◌==◌, ◌&&◌, nat_lt, List, [], ◌∷◌}
use Rattle.std.proofs.Common.{Some, None, refl, IsUtf8}
use Rattle.std.proofs.lemmas.Bool.{eqb-false, ltb-true}
use Rattle.std.proofs.lemmas.Str.{IsUtf8-nil, IsUtf8-append}
use Rattle.std.specs.Prelude.{codes}
use Rattle.serde_json.proofs.OnLiterals.{serde_json_on_literals}
use Rattle.serde_json.specs.Data as json
use Rattle.dap_mask.specs.RuleSteps.{named, elements}
use Rattle.dap_profile.specs.declared.profile.Kind.TheVariants.{Response, Event}
use Rattle.dap_tree.proofs.Booleans.{and_left, and_right}
use Rattle.dap_tree.specs.Json.{Reads}
use Rattle.dap_mask.specs.Grammar.{IsInside, at_end, escaped, other, bare, quoted, GoesOn, Says}
use Rattle.dap_mask.specs.Mask.{Statement, change, leave_out, leave_out_category, swap, restart}
use Rattle.dap_mask.specs.Mask.{put, nothing, rule, bad}
use Rattle.dap_mask.specs.RuleText.{line_said, string_of}
use Rattle.dap_mask.specs.declared.rules.Verb.TheVariants.{Blank, Digits, Hex}
use Rattle.dap_mask.proofs.Lines.{string_is}
use Rattle.dap_words.proofs.Utf8.{ascii_one}

-- ---- only a comment

comment : List ℕ
comment = codes "  # lldb-dap"

comment_says : Says comment nothing
unfolding comment
comment_says = (codes "  ", codes "# lldb-dap", refl, refl, refl)

comment_parsed : line_said comment ≡ nothing
unfolding comment
comment_parsed = refl

-- ---- a change

digits_line : List ℕ
digits_line = codes "digits response threads   body.threads[].name # a name"

digits_rule : Statement
digits_rule = change (record {
  verb = Digits;
  kind = Response;
  name = Some (codes "threads");
  category = None;
  place = named (codes "body") ∷ named (codes "threads") ∷ elements None ∷ named (codes "name")
      ∷ [];
})

digits_ends : GoesOn [] (codes " # a name")
digits_ends = (codes " ", codes "# a name", refl, refl, refl)

digits_says : Says digits_line (rule digits_rule)
unfolding digits_line digits_rule
digits_says = (
  codes "digits" ∷ codes "response" ∷ codes "threads" ∷ codes "body.threads[].name" ∷ [],
  (
    [],
    codes " response threads   body.threads[].name # a name",
    refl,
    refl,
    (
      codes " ",
      codes " threads   body.threads[].name # a name",
      refl,
      (refl, refl),
      (
        codes " ",
        codes "   body.threads[].name # a name",
        refl,
        (refl, refl),
        (codes "   ", codes " # a name", refl, (refl, refl), digits_ends),
      ),
    ),
  ),
  (
    codes "threads",
    [],
    codes "body.threads[].name",
    refl,
    bare refl refl,
    refl,
    (
      codes "body",
      codes ".threads[].name",
      refl,
      bare refl refl,
      (
        codes "threads",
        codes "[].name",
        refl,
        bare refl refl,
        (codes ".name", refl, (codes "name", [], refl, bare refl refl, refl)),
      ),
    ),
  ),
)

digits_parsed : line_said digits_line ≡ rule digits_rule
unfolding digits_line digits_rule
digits_parsed = refl

-- ---- an event whose name is a JSON string, immediately followed by a comment

drop_line : List ℕ
drop_line = codes "\tdrop event \"a # \\\"b\\\"\"#"

drop_rule : Statement
drop_rule = leave_out (Some (codes "a # \"b\""))

-- each byte is ASCII
abbrev pub is_ascii : List ℕ → Bool
is_ascii [] = true
is_ascii (b ∷ s) = nat_lt b 128 && is_ascii s

pub ascii_text : (s : List ℕ) → is_ascii s ≡ true → IsUtf8 s
ascii_text [] h = IsUtf8-nil
ascii_text (b ∷ s) h =
    IsUtf8-append (b ∷ []) s
    (ascii_one b (ltb-true b 128 (and_left (nat_lt b 128) (is_ascii s) h)))
    (ascii_text s (and_right (nat_lt b 128) (is_ascii s) h))

other_byte : {b : ℕ} {s : List ℕ} → (b == 34) ≡ false → (b == 92) ≡ false → IsInside s
    → IsInside (b ∷ s)
other_byte {b} q e i = other (eqb-false b 34 q) (eqb-false b 92 e) i

drop_inside : IsInside (codes "a # \\\"b\\\"")
drop_inside =
    other_byte refl refl (other_byte refl refl (other_byte refl refl (other_byte refl refl
    (escaped (other_byte refl refl (escaped at_end))))))

drop_reads : Reads (codes "\"a # \\\"b\\\"\"") (json.string (codes "a # \"b\""))
unfolding serde_json_on_literals
drop_reads = (ascii_text (codes "\"a # \\\"b\\\"\"") refl, refl)

drop_string : string_of (codes "\"a # \\\"b\\\"\"") ≡ Some (codes "a # \"b\"")
drop_string =
    string_is (codes "\"a # \\\"b\\\"\"") (json.string (codes "a # \"b\"")) drop_reads.0
    drop_reads.1

drop_says : Says drop_line (rule drop_rule)
unfolding drop_line drop_rule
drop_says = (
  codes "drop" ∷ codes "event" ∷ codes "\"a # \\\"b\\\"\"" ∷ [],
  (
    codes "\t",
    codes " event \"a # \\\"b\\\"\"#",
    refl,
    refl,
    (
      codes " ",
      codes " \"a # \\\"b\\\"\"#",
      refl,
      (refl, refl),
      (codes " ", codes "#", refl, (refl, refl), ([], codes "#", refl, refl, refl)),
    ),
  ),
  (codes "\"a # \\\"b\\\"\"", refl, quoted (codes "a # \\\"b\\\"") refl drop_inside drop_reads),
)

drop_parsed : line_said drop_line ≡ rule drop_rule
unfolding drop_line drop_rule
drop_parsed = rw drop_string refl

-- ---- elements by their name, which is a JSON string

element_line : List ℕ
element_line = codes "hex event a b[\"a # \\\"b\\\"\"].c"

element_rule : Statement
element_rule = change (record {
  verb = Hex;
  kind = Event;
  name = Some (codes "a");
  category = None;
  place = named (codes "b") ∷ elements (Some (codes "a # \"b\"")) ∷ named (codes "c") ∷ [];
})

element_says : Says element_line (rule element_rule)
unfolding element_line element_rule
element_says = (
  codes "hex" ∷ codes "event" ∷ codes "a" ∷ codes "b[\"a # \\\"b\\\"\"].c" ∷ [],
  (
    [],
    codes " event a b[\"a # \\\"b\\\"\"].c",
    refl,
    refl,
    (
      codes " ",
      codes " a b[\"a # \\\"b\\\"\"].c",
      refl,
      (refl, refl),
      (
        codes " ",
        codes " b[\"a # \\\"b\\\"\"].c",
        refl,
        (refl, refl),
        (codes " ", [], refl, (refl, refl), ([], [], refl, refl, tt)),
      ),
    ),
  ),
  (
    codes "a",
    [],
    codes "b[\"a # \\\"b\\\"\"].c",
    refl,
    bare refl refl,
    refl,
    (
      codes "b",
      codes "[\"a # \\\"b\\\"\"].c",
      refl,
      bare refl refl,
      (
        codes "\"a # \\\"b\\\"\"",
        codes ".c",
        refl,
        (codes "a # \\\"b\\\"", refl, drop_inside, drop_reads),
        (codes "c", [], refl, bare refl refl, refl),
      ),
    ),
  ),
)

element_parsed : line_said element_line ≡ rule element_rule
unfolding element_line element_rule
element_parsed = rw drop_string refl

-- ---- an event of one category

category_line : List ℕ
category_line = codes "drop event output  category=telemetry # of any name"

category_rule : Statement
category_rule = leave_out_category (record {
  name = Some (codes "output");
  category = codes "telemetry";
})

category_says : Says category_line (rule category_rule)
unfolding category_line category_rule
category_says = (
  codes "drop" ∷ codes "event" ∷ codes "output" ∷ codes "category=telemetry" ∷ [],
  (
    [],
    codes " event output  category=telemetry # of any name",
    refl,
    refl,
    (
      codes " ",
      codes " output  category=telemetry # of any name",
      refl,
      (refl, refl),
      (
        codes " ",
        codes "  category=telemetry # of any name",
        refl,
        (refl, refl),
        (
          codes "  ",
          codes " # of any name",
          refl,
          (refl, refl),
          (codes " ", codes "# of any name", refl, refl, refl),
        ),
      ),
    ),
  ),
  (codes "output", codes "telemetry", refl, bare refl refl, bare refl refl),
)

category_parsed : line_said category_line ≡ rule category_rule
unfolding category_line category_rule
category_parsed = refl

no_category_parsed : line_said (codes "drop event output category=") ≡ bad
no_category_parsed = refl

other_word_parsed : line_said (codes "drop event output group=telemetry") ≡ bad
other_word_parsed = refl

-- ---- a change of the events of one category

limited_line : List ℕ
limited_line = codes "digits event output category=stderr  body.output"

limited_rule : Statement
limited_rule = change (record {
  verb = Digits;
  kind = Event;
  name = Some (codes "output");
  category = Some (codes "stderr");
  place = named (codes "body") ∷ named (codes "output") ∷ [];
})

limited_says : Says limited_line (rule limited_rule)
unfolding limited_line limited_rule
limited_says = (
  codes "digits" ∷ codes "event" ∷ codes "output" ∷ codes "category=stderr" ∷ codes "body.output"
      ∷ [],
  (
    [],
    codes " event output category=stderr  body.output",
    refl,
    refl,
    (
      codes " ",
      codes " output category=stderr  body.output",
      refl,
      (refl, refl),
      (
        codes " ",
        codes " category=stderr  body.output",
        refl,
        (refl, refl),
        (
          codes " ",
          codes "  body.output",
          refl,
          (refl, refl),
          (codes "  ", [], refl, (refl, refl), ([], [], refl, refl, tt)),
        ),
      ),
    ),
  ),
  (
    codes "output",
    codes "category=stderr" ∷ [],
    codes "body.output",
    refl,
    bare refl refl,
    (codes "stderr", refl, bare refl refl, refl),
    (
      codes "body",
      codes ".output",
      refl,
      bare refl refl,
      (codes "output", [], refl, bare refl refl, refl),
    ),
  ),
)

limited_parsed : line_said limited_line ≡ rule limited_rule
unfolding limited_line limited_rule
limited_parsed = refl

-- only a rule for events has a category
limited_request_parsed : line_said (codes "blank request launch category=a b") ≡ bad
limited_request_parsed = refl

limited_response_parsed : line_said (codes "blank response * category=a b") ≡ bad
limited_response_parsed = refl

no_place_parsed : line_said (codes "blank event output category=a") ≡ bad
no_place_parsed = refl

no_text_parsed : line_said (codes "blank event output category= b") ≡ bad
no_text_parsed = refl

-- a place that starts with the member `category`
category_place_line : List ℕ
category_place_line = codes "blank event * category"

category_place_rule : Statement
category_place_rule = change (record {
  verb = Blank;
  kind = Event;
  name = None;
  category = None;
  place = named (codes "category") ∷ [];
})

category_place_parsed : line_said category_place_line ≡ rule category_place_rule
unfolding category_place_line category_place_rule
category_place_parsed = refl

-- ---- a rule for the order

swap_line : List ℕ
swap_line = codes "swap response continue event *"

swap_rule : Statement
swap_rule = swap (record {
  one = record { kind = Response; name = Some (codes "continue") };
  another = record { kind = Event; name = None };
})

swap_says : Says swap_line (rule swap_rule)
unfolding swap_line swap_rule
swap_says = (
  codes "swap" ∷ codes "response" ∷ codes "continue" ∷ codes "event" ∷ codes "*" ∷ [],
  (
    [],
    codes " response continue event *",
    refl,
    refl,
    (
      codes " ",
      codes " continue event *",
      refl,
      (refl, refl),
      (
        codes " ",
        codes " event *",
        refl,
        (refl, refl),
        (
          codes " ",
          codes " *",
          refl,
          (refl, refl),
          (codes " ", [], refl, (refl, refl), ([], [], refl, refl, tt)),
        ),
      ),
    ),
  ),
  (codes "continue", codes "*", refl, bare refl refl, refl),
)

swap_parsed : line_said swap_line ≡ rule swap_rule
unfolding swap_line swap_rule
swap_parsed = refl

-- ---- ids that are numbered again from each stop

stop_line : List ℕ
stop_line = codes " per-stop\t# of debugpy"

stop_says : Says stop_line (rule restart)
unfolding stop_line
stop_says = (
  codes "per-stop" ∷ [],
  (
    codes " ",
    codes "\t# of debugpy",
    refl,
    refl,
    (codes "\t", codes "# of debugpy", refl, refl, refl),
  ),
  refl,
)

stop_parsed : line_said stop_line ≡ rule restart
unfolding stop_line
stop_parsed = refl

more_parsed : line_said (codes "per-stop event *") ≡ bad
more_parsed = refl

-- ---- a text and its word

word_line : List ℕ
word_line = codes "\tword  here there# mine"

word_rule : Statement
word_rule = put (record { text = codes "here"; word = codes "there" })

word_says : Says word_line (rule word_rule)
unfolding word_line word_rule
word_says = (
  codes "word" ∷ codes "here" ∷ codes "there" ∷ [],
  (
    codes "\t",
    codes "  here there# mine",
    refl,
    refl,
    (
      codes "  ",
      codes " there# mine",
      refl,
      (refl, refl),
      (codes " ", codes "# mine", refl, (refl, refl), ([], codes "# mine", refl, refl, refl)),
    ),
  ),
  (codes "here", codes "there", refl, bare refl refl, bare refl refl),
)

word_parsed : line_said word_line ≡ rule word_rule
unfolding word_line word_rule
word_parsed = refl

one_word_parsed : line_said (codes "word a") ≡ bad
one_word_parsed = refl

-- ---- lines that are not rules: an incomplete place, and `drop` with a request

bad_place_parsed : line_said (codes "blank event output body.") ≡ bad
bad_place_parsed = refl

bad_kind_parsed : line_said (codes "drop request output") ≡ bad
bad_kind_parsed = refl
