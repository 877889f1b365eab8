-- The rows that apply to the messages of a kind are parts of the profile.
use Rattle.std.proofs.Common.{◌≡◌, ℕ, true, List, [], ◌++◌, Option, Some, refl, sym, ◌∙◌, ap, ap₂}
use Rattle.std.proofs.Common.{take, drop, map}
use Rattle.std.proofs.lemmas.List.{take-map, drop-map}
use Rattle.std.specs.List.{filter}
use Rattle.dap_profile.proofs.AskedRows.{asked-of-kind, whole-part, named-part, no-parts}
use Rattle.dap_profile.specs.Profile.{profile, first_rows, later_rows}
use Rattle.dap_profile.specs.ProfileRows.{ProfileRow, row_of}
use Rattle.dap_profile.specs.RowRanges.{may_apply, rows_asked, rows_named, one_name, are_runs}
use Rattle.dap_profile.specs.declared.asked_rows.TheConstants.{FIRST_REQUESTS, SECOND_REQUESTS}
use Rattle.dap_profile.specs.declared.asked_rows.TheConstants.{THIRD_REQUESTS, FIRST_EVENTS}
use Rattle.dap_profile.specs.declared.asked_rows.TheConstants.{SECOND_EVENTS, THIRD_EVENTS}
use Rattle.dap_profile.specs.declared.asked_rows.TheConstants.{FIRST_RESPONSES, LAST_RESPONSES}
use Rattle.dap_profile.specs.declared.profile.Kind.TheVariants.{Request, Response, Event}
use Rattle.dap_profile.specs.declared.profile.Row.{Row}

-- ---- parts of the table

-- the given number of rows after the first ones
behind : (first count : ℕ) (rows : List Row) → map row_of rows ≡ profile
    → map row_of (take count (drop first rows)) ≡ take count (drop first profile)
behind first count rows h =
    sym (take-map row_of count (drop first rows))
    ∙ ap (take count) (sym (drop-map row_of first rows) ∙ ap (drop first) h)

every : (rows : List Row) → map row_of rows ≡ profile → map row_of (take 1 rows) ≡ take 1 profile
every rows h = sym (take-map row_of 1 rows) ∙ ap (take 1) h

-- ---- the rows of a kind

requests : filter (may_apply (Some Request)) profile
    ≡ take 1 profile
    ++ (take 1 (drop 1 profile)
    ++ (take 42 (drop 7 profile)
    ++ (take 11 (drop 140 profile) ++ (take 11 (drop 155 profile) ++ []))))
unfolding profile first_rows later_rows
requests = refl

events : filter (may_apply (Some Event)) profile
    ≡ take 1 profile
    ++ (take 1 (drop 2 profile)
    ++ (take 17 (drop 87 profile)
    ++ (take 4 (drop 151 profile) ++ (take 5 (drop 167 profile) ++ []))))
unfolding profile first_rows later_rows
events = refl

responses : filter (may_apply (Some Response)) profile
    ≡ take 1 profile
    ++ (take 4 (drop 3 profile)
    ++ (take 38 (drop 49 profile)
    ++ (take 35 (drop 104 profile)
    ++ (take 1 (drop 139 profile)
    ++ (take 1 (drop 166 profile) ++ (take 16 (drop 172 profile) ++ []))))))
unfolding profile first_rows later_rows
responses = refl

-- the rows of these parts are runs
abbrev Runs : List ℕ → ℕ → ℕ → Type 0
Runs counts first count =
    (rows : List Row) → map row_of rows ≡ profile
    → are_runs counts (map row_of (take count (drop first rows))) ≡ true

pub first-requests : Runs FIRST_REQUESTS 7 42
unfolding profile first_rows later_rows
first-requests rows h = ap (are_runs FIRST_REQUESTS) (behind 7 42 rows h)

pub second-requests : Runs SECOND_REQUESTS 140 11
unfolding profile first_rows later_rows
second-requests rows h = ap (are_runs SECOND_REQUESTS) (behind 140 11 rows h)

pub third-requests : Runs THIRD_REQUESTS 155 11
unfolding profile first_rows later_rows
third-requests rows h = ap (are_runs THIRD_REQUESTS) (behind 155 11 rows h)

pub first-events : Runs FIRST_EVENTS 87 17
unfolding profile first_rows later_rows
first-events rows h = ap (are_runs FIRST_EVENTS) (behind 87 17 rows h)

pub second-events : Runs SECOND_EVENTS 151 4
unfolding profile first_rows later_rows
second-events rows h = ap (are_runs SECOND_EVENTS) (behind 151 4 rows h)

pub third-events : Runs THIRD_EVENTS 167 5
unfolding profile first_rows later_rows
third-events rows h = ap (are_runs THIRD_EVENTS) (behind 167 5 rows h)

pub first-responses : Runs FIRST_RESPONSES 49 38
unfolding profile first_rows later_rows
first-responses rows h = ap (are_runs FIRST_RESPONSES) (behind 49 38 rows h)

pub last-responses : Runs LAST_RESPONSES 172 16
unfolding profile first_rows later_rows
last-responses rows h = ap (are_runs LAST_RESPONSES) (behind 172 16 rows h)

-- the rows of these parts have one name
abbrev OfOne : ℕ → ℕ → Type 0
OfOne first count =
    (rows : List Row) → map row_of rows ≡ profile
    → one_name (map row_of (take count (drop first rows))) ≡ true

pub initialize-name : OfOne 104 35
unfolding profile first_rows later_rows
initialize-name rows h = ap one_name (behind 104 35 rows h)

pub threads-name : OfOne 139 1
unfolding profile first_rows later_rows
threads-name rows h = ap one_name (behind 139 1 rows h)

pub breakpoints-name : OfOne 166 1
unfolding profile first_rows later_rows
breakpoints-name rows h = ap one_name (behind 166 1 rows h)

-- ---- the rows of a kind and a name

-- x are the rows of a part of the table that have a name
abbrev Named : Option (List ℕ) → List Row → ℕ → ℕ → List ProfileRow → Type 0
Named n rows first count x = x ≡ rows_named n (map row_of (take count (drop first rows)))

of-part : (n : Option (List ℕ)) (rows : List Row) (first count : ℕ) (x : List ProfileRow)
    → map row_of rows ≡ profile → Named n rows first count x
    → x ≡ rows_named n (take count (drop first profile))
of-part n rows first count x h is = is ∙ ap (rows_named n) (behind first count rows h)

pub of-requests : (n : Option (List ℕ)) (rows : List Row) (x y z : List ProfileRow)
    → map row_of rows ≡ profile
    → Named n rows 7 42 x → Named n rows 140 11 y → Named n rows 155 11 z
    → map row_of (take 1 rows)
    ++ (map row_of (take 1 (drop 1 rows)) ++ (x ++ (y ++ (z ++ []))))
    ≡ rows_asked (Some Request) n
unfolding profile first_rows later_rows
of-requests n rows x y z h hx hy hz =
    ap₂ (λ a b. a ++ (b ++ (x ++ (y ++ (z ++ []))))) (every rows h) (behind 1 1 rows h)
    ∙ asked-of-kind Request n _ _ requests
    (whole-part Request n (take 1 profile) _ _ refl
    (whole-part Request n (take 1 (drop 1 profile)) _ _ refl
    (named-part Request n (take 42 (drop 7 profile)) x _ _ refl (of-part n rows 7 42 x h hx)
    (named-part Request n (take 11 (drop 140 profile)) y _ _ refl (of-part n rows 140 11 y h hy)
    (named-part Request n (take 11 (drop 155 profile)) z _ _ refl (of-part n rows 155 11 z h hz)
    (no-parts Request n))))))

pub of-events : (n : Option (List ℕ)) (rows : List Row) (x y z : List ProfileRow)
    → map row_of rows ≡ profile
    → Named n rows 87 17 x → Named n rows 151 4 y → Named n rows 167 5 z
    → map row_of (take 1 rows)
    ++ (map row_of (take 1 (drop 2 rows)) ++ (x ++ (y ++ (z ++ []))))
    ≡ rows_asked (Some Event) n
unfolding profile first_rows later_rows
of-events n rows x y z h hx hy hz =
    ap₂ (λ a b. a ++ (b ++ (x ++ (y ++ (z ++ []))))) (every rows h) (behind 2 1 rows h)
    ∙ asked-of-kind Event n _ _ events
    (whole-part Event n (take 1 profile) _ _ refl
    (whole-part Event n (take 1 (drop 2 profile)) _ _ refl
    (named-part Event n (take 17 (drop 87 profile)) x _ _ refl (of-part n rows 87 17 x h hx)
    (named-part Event n (take 4 (drop 151 profile)) y _ _ refl (of-part n rows 151 4 y h hy)
    (named-part Event n (take 5 (drop 167 profile)) z _ _ refl (of-part n rows 167 5 z h hz)
    (no-parts Event n))))))

pub of-responses : (n : Option (List ℕ)) (rows : List Row) (x y z u v : List ProfileRow)
    → map row_of rows ≡ profile
    → Named n rows 49 38 x → Named n rows 104 35 y → Named n rows 139 1 z → Named n rows 166 1 u
    → Named n rows 172 16 v
    → map row_of (take 1 rows)
    ++ (map row_of (take 4 (drop 3 rows)) ++ (x ++ (y ++ (z ++ (u ++ (v ++ []))))))
    ≡ rows_asked (Some Response) n
unfolding profile first_rows later_rows
of-responses n rows x y z u v h hx hy hz hu hv =
    ap₂ (λ a b. a ++ (b ++ (x ++ (y ++ (z ++ (u ++ (v ++ []))))))) (every rows h)
    (behind 3 4 rows h)
    ∙ asked-of-kind Response n _ _ responses
    (whole-part Response n (take 1 profile) _ _ refl
    (whole-part Response n (take 4 (drop 3 profile)) _ _ refl
    (named-part Response n (take 38 (drop 49 profile)) x _ _ refl (of-part n rows 49 38 x h hx)
    (named-part Response n (take 35 (drop 104 profile)) y _ _ refl (of-part n rows 104 35 y h hy)
    (named-part Response n (take 1 (drop 139 profile)) z _ _ refl (of-part n rows 139 1 z h hz)
    (named-part Response n (take 1 (drop 166 profile)) u _ _ refl (of-part n rows 166 1 u h hu)
    (named-part Response n (take 16 (drop 172 profile)) v _ _ refl (of-part n rows 172 16 v h hv)
    (no-parts Response n))))))))
