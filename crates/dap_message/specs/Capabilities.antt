-- The capabilities that are read as false if an adapter's response to `initialize` omits them.
use Rattle.dap_tree.specs.Doc.{Doc, null, boolean, object, Members, no_members, put, get_member}
use Rattle.dap_tree.specs.Doc.{change_child}
use Rattle.dap_tree.specs.declared.side.Side.{Side}
use Rattle.dap_tree.specs.declared.side.Side.TheVariants.{Client, Adapter}
use Rattle.std.specs.Prelude.{ℕ, Bool, true, false, cond, List, [], ◌∷◌, Option, Some, None, codes}
use Rattle.dap_profile.specs.declared.profile.Kind.TheVariants.{Response}
use Rattle.dap_message.specs.Rows.{row_applies}

-- There is a value other than null.
abbrev pub is_given : Option Doc → Bool
is_given None = false
is_given (Some null) = false
is_given (Some d) = true

-- Sets the member at a name to d if it is absent or null.
abbrev pub default_member : List ℕ → Doc → Members → Members
default_member k d ms = cond (is_given (get_member k ms)) ms (put k d ms)

-- Sets the member of an object at a name to d if it is absent or null.
abbrev pub default_to : List ℕ → Doc → Doc → Doc
default_to k d (object ms) = object (default_member k d ms)
default_to k d e = e

-- Sets each member with one of these names to false if it is absent or null.
abbrev pub false_members : List (List ℕ) → Members → Members
false_members [] ms = ms
false_members (k ∷ ks) ms = false_members ks (default_member k (boolean false) ms)

-- Sets each member of an object with one of these names to false if it is absent or null.
abbrev pub false_at : List (List ℕ) → Doc → Doc
false_at ks (object ms) = object (false_members ks ms)
false_at ks d = d

-- An adapter reports its capabilities in its successful response to `initialize` (DAP
-- specification). Its `capabilities` event contains only those that changed, so nothing is added to
-- that event.
abbrev pub carries_capabilities : Side → Doc → Bool
carries_capabilities Client d = false
carries_capabilities Adapter d = row_applies (Some Response) (Some (codes "initialize")) d

-- The names of the boolean capabilities (DAP specification, Capabilities), in byte order.
abbrev pub capabilities : List (List ℕ)
capabilities =
    codes "supportSuspendDebuggee"
    ∷ codes "supportTerminateDebuggee"
    ∷ codes "supportsBreakpointLocationsRequest"
    ∷ codes "supportsCancelRequest"
    ∷ codes "supportsClipboardContext"
    ∷ codes "supportsCompletionsRequest"
    ∷ codes "supportsConditionalBreakpoints"
    ∷ codes "supportsConfigurationDoneRequest"
    ∷ codes "supportsDataBreakpoints"
    ∷ codes "supportsDelayedStackTraceLoading"
    ∷ codes "supportsDisassembleRequest"
    ∷ codes "supportsEvaluateForHovers"
    ∷ codes "supportsExceptionFilterOptions"
    ∷ codes "supportsExceptionInfoRequest"
    ∷ codes "supportsExceptionOptions"
    ∷ codes "supportsFunctionBreakpoints"
    ∷ codes "supportsGotoTargetsRequest"
    ∷ codes "supportsHitConditionalBreakpoints"
    ∷ codes "supportsInstructionBreakpoints"
    ∷ codes "supportsLoadedSourcesRequest"
    ∷ codes "supportsLogPoints"
    ∷ codes "supportsModulesRequest"
    ∷ codes "supportsReadMemoryRequest"
    ∷ codes "supportsRestartFrame"
    ∷ codes "supportsRestartRequest"
    ∷ codes "supportsSetExpression"
    ∷ codes "supportsSetVariable"
    ∷ codes "supportsSingleThreadExecutionRequests"
    ∷ codes "supportsStepBack"
    ∷ codes "supportsStepInTargetsRequest"
    ∷ codes "supportsSteppingGranularity"
    ∷ codes "supportsTerminateRequest"
    ∷ codes "supportsTerminateThreadsRequest"
    ∷ codes "supportsValueFormattingOptions"
    ∷ codes "supportsWriteMemoryRequest"
    ∷ []

-- An absent or null body is read as an empty object, and each absent or null capability in it as
-- false. All of them are optional in the DAP specification; reading them as false is own.
unfoldable pub with_capabilities : Doc → Doc
with_capabilities d =
    change_child (codes "body") (false_at capabilities)
    (default_to (codes "body") (object no_members) d)

-- The document with the capabilities filled in that its side may omit.
abbrev pub filled : Side → Doc → Doc
filled side d = cond (carries_capabilities side d) (with_capabilities d) d
