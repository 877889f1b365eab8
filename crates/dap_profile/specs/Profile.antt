-- The rows of the profile: number, messages, path, expected type, and whether it is required.
-- The members and their types are those of the schema of the DAP specification, restricted to what
-- this project reads. Which of them are required is own.
use Rattle.std.specs.Prelude.{ℕ, Bool, List, [], ◌∷◌, ◌++◌, Option, true, false, Some, None}
use Rattle.std.specs.Prelude.{codes, if◌then◌else◌, bytes_eq}
use Rattle.dap_profile.specs.PlaceSteps.{PlaceStep, named, each}
use Rattle.dap_profile.specs.ProfileRows.{ProfileRow}
use Rattle.dap_profile.specs.declared.profile.Kind.{Kind}
use Rattle.dap_profile.specs.declared.profile.Kind.TheVariants.{Request, Response, Event}
use Rattle.dap_profile.specs.declared.profile.Want.{Want}
use Rattle.dap_profile.specs.declared.profile.Want.TheVariants.{Bool as WantBool, Whole, Text}
use Rattle.dap_profile.specs.declared.profile.Want.TheVariants.{Object, List as WantList, OwnSeq}
use Rattle.dap_profile.specs.declared.profile.Want.TheVariants.{OtherSeq, Frame, Reference}
use Rattle.dap_profile.specs.declared.profile.Want.TheVariants.{Thread, Breakpoint}

-- ---- the kinds of messages

-- The `type` of a message of a kind (DAP specification, ProtocolMessage).
abbrev pub kind_name : Kind → List ℕ
kind_name Request = codes "request"
kind_name Response = codes "response"
kind_name Event = codes "event"

-- The kind that a `type` names.
abbrev pub kind_named : List ℕ → Option Kind
kind_named name =
    if bytes_eq name (codes "request") then Some Request
    else if bytes_eq name (codes "response") then Some Response
    else if bytes_eq name (codes "event") then Some Event else None

-- ---- the types that a row may expect

-- The row expects an id, which is renamed.
abbrev pub wants_id : Want → Bool
wants_id WantBool = false
wants_id Whole = false
wants_id Text = false
wants_id Object = false
wants_id WantList = false
wants_id _ = true

-- The expected type: its name in JSON Schema, or the word for what an id numbers (own).
abbrev pub want_word : Want → List ℕ
want_word WantBool = codes "boolean"
want_word Whole = codes "integer"
want_word Text = codes "string"
want_word Object = codes "object"
want_word WantList = codes "array"
want_word OwnSeq = codes "own-seq"
want_word OtherSeq = codes "other-seq"
want_word Frame = codes "frame"
want_word Reference = codes "reference"
want_word Thread = codes "thread"
want_word Breakpoint = codes "breakpoint"

-- ---- the rows

abbrev pub row : ℕ → Option Kind → Option (List ℕ) → List PlaceStep → Want → Bool → ProfileRow
row n k m p w b = record { number = n; kind = k; name = m; place = p; want = w; needed = b }

abbrev pub needed : Bool
needed = true

abbrev pub optional : Bool
optional = false

-- a
abbrev pub here : List ℕ → List PlaceStep
here a = named a ∷ []

-- a.b
abbrev pub inside : List ℕ → List ℕ → List PlaceStep
inside a b = named a ∷ named b ∷ []

-- a.b[]
abbrev pub each_of : List ℕ → List ℕ → List PlaceStep
each_of a b = named a ∷ named b ∷ each ∷ []

-- a.b[].c
abbrev pub in_each : List ℕ → List ℕ → List ℕ → List PlaceStep
in_each a b c = named a ∷ named b ∷ each ∷ named c ∷ []

-- a.b.c
abbrev pub deep : List ℕ → List ℕ → List ℕ → List PlaceStep
deep a b c = named a ∷ named b ∷ named c ∷ []

-- The rows of the first profile: sequence numbers, frame ids and variables references (own).
unfoldable pub first_rows : List ProfileRow
first_rows =
    row 1 None None (here (codes "seq")) OwnSeq needed
    ∷ row 2 (Some Request) None (here (codes "command")) Text needed
    ∷ row 3 (Some Event) None (here (codes "event")) Text needed
    ∷ row 4 (Some Response) None (here (codes "request_seq")) OtherSeq needed
    ∷ row 5 (Some Response) None (here (codes "success")) WantBool needed
    ∷ row 6 (Some Response) None (here (codes "command")) Text needed
    ∷ row 7 (Some Response) None (here (codes "message")) Text optional
    ∷ row 8 (Some Request) (Some (codes "initialize")) (here (codes "arguments")) Object needed
    ∷ row 9 (Some Request) (Some (codes "initialize"))
    (inside (codes "arguments") (codes "adapterID")) Text needed
    ∷ row 10 (Some Request) (Some (codes "launch")) (here (codes "arguments")) Object optional
    ∷ row 11 (Some Request) (Some (codes "launch")) (inside (codes "arguments") (codes "noDebug"))
    WantBool optional
    ∷ row 12 (Some Request) (Some (codes "setBreakpoints")) (here (codes "arguments")) Object needed
    ∷ row 13 (Some Request) (Some (codes "setBreakpoints"))
    (inside (codes "arguments") (codes "source")) Object needed
    ∷ row 14 (Some Request) (Some (codes "setBreakpoints"))
    (inside (codes "arguments") (codes "breakpoints")) WantList optional
    ∷ row 15 (Some Request) (Some (codes "setBreakpoints"))
    (each_of (codes "arguments") (codes "breakpoints")) Object needed
    ∷ row 16 (Some Request) (Some (codes "setBreakpoints"))
    (in_each (codes "arguments") (codes "breakpoints") (codes "line")) Whole needed
    ∷ row 17 (Some Request) (Some (codes "stackTrace")) (here (codes "arguments")) Object needed
    ∷ row 18 (Some Request) (Some (codes "stackTrace"))
    (inside (codes "arguments") (codes "startFrame")) Whole optional
    ∷ row 19 (Some Request) (Some (codes "stackTrace"))
    (inside (codes "arguments") (codes "levels")) Whole optional
    ∷ row 20 (Some Request) (Some (codes "scopes")) (here (codes "arguments")) Object needed
    ∷ row 21 (Some Request) (Some (codes "scopes")) (inside (codes "arguments") (codes "frameId"))
    Frame needed
    ∷ row 22 (Some Request) (Some (codes "variables")) (here (codes "arguments")) Object needed
    ∷ row 23 (Some Request) (Some (codes "variables"))
    (inside (codes "arguments") (codes "variablesReference")) Reference needed
    ∷ row 24 (Some Request) (Some (codes "variables")) (inside (codes "arguments") (codes "start"))
    Whole optional
    ∷ row 25 (Some Request) (Some (codes "variables")) (inside (codes "arguments") (codes "count"))
    Whole optional
    ∷ row 26 (Some Request) (Some (codes "setVariable")) (here (codes "arguments")) Object needed
    ∷ row 27 (Some Request) (Some (codes "setVariable"))
    (inside (codes "arguments") (codes "variablesReference")) Reference needed
    ∷ row 28 (Some Request) (Some (codes "setVariable")) (inside (codes "arguments") (codes "name"))
    Text needed
    ∷ row 29 (Some Request) (Some (codes "setVariable"))
    (inside (codes "arguments") (codes "value")) Text needed
    ∷ row 30 (Some Request) (Some (codes "evaluate")) (here (codes "arguments")) Object needed
    ∷ row 31 (Some Request) (Some (codes "evaluate"))
    (inside (codes "arguments") (codes "expression")) Text needed
    ∷ row 32 (Some Request) (Some (codes "evaluate")) (inside (codes "arguments") (codes "frameId"))
    Frame optional
    ∷ row 33 (Some Request) (Some (codes "evaluate")) (inside (codes "arguments") (codes "context"))
    Text optional
    ∷ row 34 (Some Request) (Some (codes "completions")) (here (codes "arguments")) Object needed
    ∷ row 35 (Some Request) (Some (codes "completions"))
    (inside (codes "arguments") (codes "frameId")) Frame optional
    ∷ row 36 (Some Request) (Some (codes "setExpression")) (here (codes "arguments")) Object needed
    ∷ row 37 (Some Request) (Some (codes "setExpression"))
    (inside (codes "arguments") (codes "frameId")) Frame optional
    ∷ row 38 (Some Request) (Some (codes "dataBreakpointInfo")) (here (codes "arguments")) Object
    needed
    ∷ row 39 (Some Request) (Some (codes "dataBreakpointInfo"))
    (inside (codes "arguments") (codes "frameId")) Frame optional
    ∷ row 40 (Some Request) (Some (codes "dataBreakpointInfo"))
    (inside (codes "arguments") (codes "variablesReference")) Reference optional
    ∷ row 41 (Some Request) (Some (codes "restartFrame")) (here (codes "arguments")) Object needed
    ∷ row 42 (Some Request) (Some (codes "restartFrame"))
    (inside (codes "arguments") (codes "frameId")) Frame needed
    ∷ row 43 (Some Request) (Some (codes "stepInTargets")) (here (codes "arguments")) Object needed
    ∷ row 44 (Some Request) (Some (codes "stepInTargets"))
    (inside (codes "arguments") (codes "frameId")) Frame needed
    ∷ row 45 (Some Request) (Some (codes "disconnect")) (here (codes "arguments")) Object optional
    ∷ row 46 (Some Request) (Some (codes "disconnect"))
    (inside (codes "arguments") (codes "restart")) WantBool optional
    ∷ row 47 (Some Request) (Some (codes "disconnect"))
    (inside (codes "arguments") (codes "terminateDebuggee")) WantBool optional
    ∷ row 48 (Some Request) (Some (codes "cancel")) (here (codes "arguments")) Object optional
    ∷ row 49 (Some Request) (Some (codes "cancel")) (inside (codes "arguments") (codes "requestId"))
    OwnSeq optional
    ∷ row 50 (Some Response) (Some (codes "initialize")) (here (codes "body")) Object optional
    ∷ row 51 (Some Response) (Some (codes "setBreakpoints")) (here (codes "body")) Object needed
    ∷ row 52 (Some Response) (Some (codes "setBreakpoints"))
    (inside (codes "body") (codes "breakpoints")) WantList needed
    ∷ row 53 (Some Response) (Some (codes "setBreakpoints"))
    (each_of (codes "body") (codes "breakpoints")) Object needed
    ∷ row 54 (Some Response) (Some (codes "setBreakpoints"))
    (in_each (codes "body") (codes "breakpoints") (codes "verified")) WantBool needed
    ∷ row 55 (Some Response) (Some (codes "threads")) (here (codes "body")) Object needed
    ∷ row 56 (Some Response) (Some (codes "threads")) (inside (codes "body") (codes "threads"))
    WantList needed
    ∷ row 57 (Some Response) (Some (codes "threads")) (each_of (codes "body") (codes "threads"))
    Object needed
    ∷ row 58 (Some Response) (Some (codes "threads"))
    (in_each (codes "body") (codes "threads") (codes "name")) Text needed
    ∷ row 59 (Some Response) (Some (codes "stackTrace")) (here (codes "body")) Object needed
    ∷ row 60 (Some Response) (Some (codes "stackTrace"))
    (inside (codes "body") (codes "stackFrames")) WantList needed
    ∷ row 61 (Some Response) (Some (codes "stackTrace"))
    (each_of (codes "body") (codes "stackFrames")) Object needed
    ∷ row 62 (Some Response) (Some (codes "stackTrace"))
    (in_each (codes "body") (codes "stackFrames") (codes "id")) Frame needed
    ∷ row 63 (Some Response) (Some (codes "stackTrace"))
    (in_each (codes "body") (codes "stackFrames") (codes "name")) Text needed
    ∷ row 64 (Some Response) (Some (codes "stackTrace"))
    (in_each (codes "body") (codes "stackFrames") (codes "line")) Whole needed
    ∷ row 65 (Some Response) (Some (codes "stackTrace"))
    (in_each (codes "body") (codes "stackFrames") (codes "column")) Whole needed
    ∷ row 66 (Some Response) (Some (codes "stackTrace"))
    (inside (codes "body") (codes "totalFrames")) Whole optional
    ∷ row 67 (Some Response) (Some (codes "scopes")) (here (codes "body")) Object needed
    ∷ row 68 (Some Response) (Some (codes "scopes")) (inside (codes "body") (codes "scopes"))
    WantList needed
    ∷ row 69 (Some Response) (Some (codes "scopes")) (each_of (codes "body") (codes "scopes"))
    Object needed
    ∷ row 70 (Some Response) (Some (codes "scopes"))
    (in_each (codes "body") (codes "scopes") (codes "name")) Text needed
    ∷ row 71 (Some Response) (Some (codes "scopes"))
    (in_each (codes "body") (codes "scopes") (codes "variablesReference")) Reference needed
    ∷ row 72 (Some Response) (Some (codes "variables")) (here (codes "body")) Object needed
    ∷ row 73 (Some Response) (Some (codes "variables")) (inside (codes "body") (codes "variables"))
    WantList needed
    ∷ row 74 (Some Response) (Some (codes "variables")) (each_of (codes "body") (codes "variables"))
    Object needed
    ∷ row 75 (Some Response) (Some (codes "variables"))
    (in_each (codes "body") (codes "variables") (codes "name")) Text needed
    ∷ row 76 (Some Response) (Some (codes "variables"))
    (in_each (codes "body") (codes "variables") (codes "value")) Text needed
    ∷ row 77 (Some Response) (Some (codes "variables"))
    (in_each (codes "body") (codes "variables") (codes "variablesReference")) Reference needed
    ∷ row 78 (Some Response) (Some (codes "evaluate")) (here (codes "body")) Object needed
    ∷ row 79 (Some Response) (Some (codes "evaluate")) (inside (codes "body") (codes "result")) Text
    needed
    ∷ row 80 (Some Response) (Some (codes "evaluate"))
    (inside (codes "body") (codes "variablesReference")) Reference needed
    ∷ row 81 (Some Response) (Some (codes "setVariable")) (here (codes "body")) Object needed
    ∷ row 82 (Some Response) (Some (codes "setVariable")) (inside (codes "body") (codes "value"))
    Text needed
    ∷ row 83 (Some Response) (Some (codes "setVariable"))
    (inside (codes "body") (codes "variablesReference")) Reference optional
    ∷ row 84 (Some Response) (Some (codes "setExpression")) (here (codes "body")) Object needed
    ∷ row 85 (Some Response) (Some (codes "setExpression"))
    (inside (codes "body") (codes "variablesReference")) Reference optional
    ∷ row 86 (Some Response) (Some (codes "continue")) (here (codes "body")) Object optional
    ∷ row 87 (Some Response) (Some (codes "continue"))
    (inside (codes "body") (codes "allThreadsContinued")) WantBool optional
    ∷ row 88 (Some Event) (Some (codes "stopped")) (here (codes "body")) Object needed
    ∷ row 89 (Some Event) (Some (codes "stopped")) (inside (codes "body") (codes "reason")) Text
    needed
    ∷ row 90 (Some Event) (Some (codes "stopped"))
    (inside (codes "body") (codes "allThreadsStopped")) WantBool optional
    ∷ row 91 (Some Event) (Some (codes "continued")) (here (codes "body")) Object optional
    ∷ row 92 (Some Event) (Some (codes "continued"))
    (inside (codes "body") (codes "allThreadsContinued")) WantBool optional
    ∷ row 93 (Some Event) (Some (codes "output")) (here (codes "body")) Object needed
    ∷ row 94 (Some Event) (Some (codes "output")) (inside (codes "body") (codes "output")) Text
    needed
    ∷ row 95 (Some Event) (Some (codes "output")) (inside (codes "body") (codes "category")) Text
    optional
    ∷ row 96 (Some Event) (Some (codes "output"))
    (inside (codes "body") (codes "variablesReference")) Reference optional
    ∷ row 97 (Some Event) (Some (codes "exited")) (here (codes "body")) Object optional
    ∷ row 98 (Some Event) (Some (codes "exited")) (inside (codes "body") (codes "exitCode")) Whole
    optional
    ∷ row 99 (Some Event) (Some (codes "thread")) (here (codes "body")) Object optional
    ∷ row 100 (Some Event) (Some (codes "thread")) (inside (codes "body") (codes "reason")) Text
    optional
    ∷ row 101 (Some Event) (Some (codes "invalidated")) (here (codes "body")) Object optional
    ∷ row 102 (Some Event) (Some (codes "invalidated"))
    (inside (codes "body") (codes "stackFrameId")) Frame optional
    ∷ row 103 (Some Event) (Some (codes "progressStart")) (here (codes "body")) Object optional
    ∷ row 104 (Some Event) (Some (codes "progressStart"))
    (inside (codes "body") (codes "requestId")) OtherSeq optional
    ∷ row 105 (Some Response) (Some (codes "initialize"))
    (inside (codes "body") (codes "supportSuspendDebuggee")) WantBool optional
    ∷ row 106 (Some Response) (Some (codes "initialize"))
    (inside (codes "body") (codes "supportTerminateDebuggee")) WantBool optional
    ∷ row 107 (Some Response) (Some (codes "initialize"))
    (inside (codes "body") (codes "supportsBreakpointLocationsRequest")) WantBool optional
    ∷ row 108 (Some Response) (Some (codes "initialize"))
    (inside (codes "body") (codes "supportsCancelRequest")) WantBool optional
    ∷ row 109 (Some Response) (Some (codes "initialize"))
    (inside (codes "body") (codes "supportsClipboardContext")) WantBool optional
    ∷ row 110 (Some Response) (Some (codes "initialize"))
    (inside (codes "body") (codes "supportsCompletionsRequest")) WantBool optional
    ∷ row 111 (Some Response) (Some (codes "initialize"))
    (inside (codes "body") (codes "supportsConditionalBreakpoints")) WantBool optional
    ∷ row 112 (Some Response) (Some (codes "initialize"))
    (inside (codes "body") (codes "supportsConfigurationDoneRequest")) WantBool optional
    ∷ row 113 (Some Response) (Some (codes "initialize"))
    (inside (codes "body") (codes "supportsDataBreakpoints")) WantBool optional
    ∷ row 114 (Some Response) (Some (codes "initialize"))
    (inside (codes "body") (codes "supportsDelayedStackTraceLoading")) WantBool optional
    ∷ row 115 (Some Response) (Some (codes "initialize"))
    (inside (codes "body") (codes "supportsDisassembleRequest")) WantBool optional
    ∷ row 116 (Some Response) (Some (codes "initialize"))
    (inside (codes "body") (codes "supportsEvaluateForHovers")) WantBool optional
    ∷ row 117 (Some Response) (Some (codes "initialize"))
    (inside (codes "body") (codes "supportsExceptionFilterOptions")) WantBool optional
    ∷ row 118 (Some Response) (Some (codes "initialize"))
    (inside (codes "body") (codes "supportsExceptionInfoRequest")) WantBool optional
    ∷ row 119 (Some Response) (Some (codes "initialize"))
    (inside (codes "body") (codes "supportsExceptionOptions")) WantBool optional
    ∷ row 120 (Some Response) (Some (codes "initialize"))
    (inside (codes "body") (codes "supportsFunctionBreakpoints")) WantBool optional
    ∷ row 121 (Some Response) (Some (codes "initialize"))
    (inside (codes "body") (codes "supportsGotoTargetsRequest")) WantBool optional
    ∷ row 122 (Some Response) (Some (codes "initialize"))
    (inside (codes "body") (codes "supportsHitConditionalBreakpoints")) WantBool optional
    ∷ row 123 (Some Response) (Some (codes "initialize"))
    (inside (codes "body") (codes "supportsInstructionBreakpoints")) WantBool optional
    ∷ row 124 (Some Response) (Some (codes "initialize"))
    (inside (codes "body") (codes "supportsLoadedSourcesRequest")) WantBool optional
    ∷ row 125 (Some Response) (Some (codes "initialize"))
    (inside (codes "body") (codes "supportsLogPoints")) WantBool optional
    ∷ row 126 (Some Response) (Some (codes "initialize"))
    (inside (codes "body") (codes "supportsModulesRequest")) WantBool optional
    ∷ row 127 (Some Response) (Some (codes "initialize"))
    (inside (codes "body") (codes "supportsReadMemoryRequest")) WantBool optional
    ∷ row 128 (Some Response) (Some (codes "initialize"))
    (inside (codes "body") (codes "supportsRestartFrame")) WantBool optional
    ∷ row 129 (Some Response) (Some (codes "initialize"))
    (inside (codes "body") (codes "supportsRestartRequest")) WantBool optional
    ∷ row 130 (Some Response) (Some (codes "initialize"))
    (inside (codes "body") (codes "supportsSetExpression")) WantBool optional
    ∷ row 131 (Some Response) (Some (codes "initialize"))
    (inside (codes "body") (codes "supportsSetVariable")) WantBool optional
    ∷ row 132 (Some Response) (Some (codes "initialize"))
    (inside (codes "body") (codes "supportsSingleThreadExecutionRequests")) WantBool optional
    ∷ row 133 (Some Response) (Some (codes "initialize"))
    (inside (codes "body") (codes "supportsStepBack")) WantBool optional
    ∷ row 134 (Some Response) (Some (codes "initialize"))
    (inside (codes "body") (codes "supportsStepInTargetsRequest")) WantBool optional
    ∷ row 135 (Some Response) (Some (codes "initialize"))
    (inside (codes "body") (codes "supportsSteppingGranularity")) WantBool optional
    ∷ row 136 (Some Response) (Some (codes "initialize"))
    (inside (codes "body") (codes "supportsTerminateRequest")) WantBool optional
    ∷ row 137 (Some Response) (Some (codes "initialize"))
    (inside (codes "body") (codes "supportsTerminateThreadsRequest")) WantBool optional
    ∷ row 138 (Some Response) (Some (codes "initialize"))
    (inside (codes "body") (codes "supportsValueFormattingOptions")) WantBool optional
    ∷ row 139 (Some Response) (Some (codes "initialize"))
    (inside (codes "body") (codes "supportsWriteMemoryRequest")) WantBool optional
    ∷ []

-- The rows of a later profile, after the first rows: thread ids and breakpoint ids (own).
unfoldable pub later_rows : List ProfileRow
later_rows =
    row 140 (Some Response) (Some (codes "threads"))
    (in_each (codes "body") (codes "threads") (codes "id")) Thread needed
    ∷ row 141 (Some Request) (Some (codes "stackTrace"))
    (inside (codes "arguments") (codes "threadId")) Thread needed
    ∷ row 142 (Some Request) (Some (codes "continue")) (here (codes "arguments")) Object needed
    ∷ row 143 (Some Request) (Some (codes "continue"))
    (inside (codes "arguments") (codes "threadId")) Thread needed
    ∷ row 144 (Some Request) (Some (codes "next")) (here (codes "arguments")) Object needed
    ∷ row 145 (Some Request) (Some (codes "next")) (inside (codes "arguments") (codes "threadId"))
    Thread needed
    ∷ row 146 (Some Request) (Some (codes "stepIn")) (here (codes "arguments")) Object needed
    ∷ row 147 (Some Request) (Some (codes "stepIn")) (inside (codes "arguments") (codes "threadId"))
    Thread needed
    ∷ row 148 (Some Request) (Some (codes "stepOut")) (here (codes "arguments")) Object needed
    ∷ row 149 (Some Request) (Some (codes "stepOut"))
    (inside (codes "arguments") (codes "threadId")) Thread needed
    ∷ row 150 (Some Request) (Some (codes "pause")) (here (codes "arguments")) Object needed
    ∷ row 151 (Some Request) (Some (codes "pause")) (inside (codes "arguments") (codes "threadId"))
    Thread needed
    ∷ row 152 (Some Event) (Some (codes "stopped")) (inside (codes "body") (codes "threadId"))
    Thread optional
    ∷ row 153 (Some Event) (Some (codes "continued")) (inside (codes "body") (codes "threadId"))
    Thread optional
    ∷ row 154 (Some Event) (Some (codes "thread")) (inside (codes "body") (codes "threadId")) Thread
    optional
    ∷ row 155 (Some Event) (Some (codes "invalidated")) (inside (codes "body") (codes "threadId"))
    Thread optional
    ∷ row 156 (Some Request) (Some (codes "stepBack")) (here (codes "arguments")) Object optional
    ∷ row 157 (Some Request) (Some (codes "stepBack"))
    (inside (codes "arguments") (codes "threadId")) Thread optional
    ∷ row 158 (Some Request) (Some (codes "reverseContinue")) (here (codes "arguments")) Object
    optional
    ∷ row 159 (Some Request) (Some (codes "reverseContinue"))
    (inside (codes "arguments") (codes "threadId")) Thread optional
    ∷ row 160 (Some Request) (Some (codes "goto")) (here (codes "arguments")) Object optional
    ∷ row 161 (Some Request) (Some (codes "goto")) (inside (codes "arguments") (codes "threadId"))
    Thread optional
    ∷ row 162 (Some Request) (Some (codes "exceptionInfo")) (here (codes "arguments")) Object
    optional
    ∷ row 163 (Some Request) (Some (codes "exceptionInfo"))
    (inside (codes "arguments") (codes "threadId")) Thread optional
    ∷ row 164 (Some Request) (Some (codes "terminateThreads")) (here (codes "arguments")) Object
    optional
    ∷ row 165 (Some Request) (Some (codes "terminateThreads"))
    (inside (codes "arguments") (codes "threadIds")) WantList optional
    ∷ row 166 (Some Request) (Some (codes "terminateThreads"))
    (each_of (codes "arguments") (codes "threadIds")) Thread needed
    ∷ row 167 (Some Response) (Some (codes "setBreakpoints"))
    (in_each (codes "body") (codes "breakpoints") (codes "id")) Breakpoint optional
    ∷ row 168 (Some Event) (Some (codes "stopped"))
    (inside (codes "body") (codes "hitBreakpointIds")) WantList optional
    ∷ row 169 (Some Event) (Some (codes "stopped"))
    (each_of (codes "body") (codes "hitBreakpointIds")) Breakpoint needed
    ∷ row 170 (Some Event) (Some (codes "breakpoint")) (here (codes "body")) Object optional
    ∷ row 171 (Some Event) (Some (codes "breakpoint")) (inside (codes "body") (codes "breakpoint"))
    Object optional
    ∷ row 172 (Some Event) (Some (codes "breakpoint"))
    (deep (codes "body") (codes "breakpoint") (codes "id")) Breakpoint optional
    ∷ row 173 (Some Response) (Some (codes "setFunctionBreakpoints")) (here (codes "body")) Object
    optional
    ∷ row 174 (Some Response) (Some (codes "setFunctionBreakpoints"))
    (inside (codes "body") (codes "breakpoints")) WantList optional
    ∷ row 175 (Some Response) (Some (codes "setFunctionBreakpoints"))
    (each_of (codes "body") (codes "breakpoints")) Object needed
    ∷ row 176 (Some Response) (Some (codes "setFunctionBreakpoints"))
    (in_each (codes "body") (codes "breakpoints") (codes "id")) Breakpoint optional
    ∷ row 177 (Some Response) (Some (codes "setDataBreakpoints")) (here (codes "body")) Object
    optional
    ∷ row 178 (Some Response) (Some (codes "setDataBreakpoints"))
    (inside (codes "body") (codes "breakpoints")) WantList optional
    ∷ row 179 (Some Response) (Some (codes "setDataBreakpoints"))
    (each_of (codes "body") (codes "breakpoints")) Object needed
    ∷ row 180 (Some Response) (Some (codes "setDataBreakpoints"))
    (in_each (codes "body") (codes "breakpoints") (codes "id")) Breakpoint optional
    ∷ row 181 (Some Response) (Some (codes "setInstructionBreakpoints")) (here (codes "body"))
    Object optional
    ∷ row 182 (Some Response) (Some (codes "setInstructionBreakpoints"))
    (inside (codes "body") (codes "breakpoints")) WantList optional
    ∷ row 183 (Some Response) (Some (codes "setInstructionBreakpoints"))
    (each_of (codes "body") (codes "breakpoints")) Object needed
    ∷ row 184 (Some Response) (Some (codes "setInstructionBreakpoints"))
    (in_each (codes "body") (codes "breakpoints") (codes "id")) Breakpoint optional
    ∷ row 185 (Some Response) (Some (codes "setExceptionBreakpoints")) (here (codes "body")) Object
    optional
    ∷ row 186 (Some Response) (Some (codes "setExceptionBreakpoints"))
    (inside (codes "body") (codes "breakpoints")) WantList optional
    ∷ row 187 (Some Response) (Some (codes "setExceptionBreakpoints"))
    (each_of (codes "body") (codes "breakpoints")) Object needed
    ∷ row 188 (Some Response) (Some (codes "setExceptionBreakpoints"))
    (in_each (codes "body") (codes "breakpoints") (codes "id")) Breakpoint optional
    ∷ []

-- The rows of the profile.
unfoldable pub profile : List ProfileRow
profile = first_rows ++ later_rows
