-- The names of the rules in output, and their explanations (own).
use Rattle.std.specs.Prelude.{ℕ, List, codes}
use Rattle.dap_session.specs.declared.rule.Rule.{Rule}
use Rattle.dap_session.specs.declared.rule.Rule.TheVariants.{EventFromClient, NotInitialized}
use Rattle.dap_session.specs.declared.rule.Rule.TheVariants.{StillInitializing, InitializeTwice}
use Rattle.dap_session.specs.declared.rule.Rule.TheVariants.{AfterDisconnect, SeqUsed}
use Rattle.dap_session.specs.declared.rule.Rule.TheVariants.{ConfiguredEarly, ConfiguredTwice}
use Rattle.dap_session.specs.declared.rule.Rule.TheVariants.{NoRequest, AnsweredTwice, OtherCommand}

abbrev pub rule_name : Rule → List ℕ
rule_name EventFromClient = codes "EventFromClient"
rule_name NotInitialized = codes "NotInitialized"
rule_name StillInitializing = codes "StillInitializing"
rule_name InitializeTwice = codes "InitializeTwice"
rule_name AfterDisconnect = codes "AfterDisconnect"
rule_name SeqUsed = codes "SeqUsed"
rule_name ConfiguredEarly = codes "ConfiguredEarly"
rule_name ConfiguredTwice = codes "ConfiguredTwice"
rule_name NoRequest = codes "NoRequest"
rule_name AnsweredTwice = codes "AnsweredTwice"
rule_name OtherCommand = codes "OtherCommand"

-- What the rule requires.
abbrev pub rule_meaning : Rule → List ℕ
rule_meaning EventFromClient = codes "only the adapter sends events"
rule_meaning NotInitialized =
    codes "only output events may come before the client's initialize request"
rule_meaning StillInitializing =
    codes "before the response to initialize, only the adapter sends: responses and output events"
rule_meaning InitializeTwice = codes "a session has one initialize request"
rule_meaning AfterDisconnect =
    codes "the client sends no request after a successful disconnect response"
rule_meaning SeqUsed = codes "each request of a side has a seq of its own"
rule_meaning ConfiguredEarly = codes "configurationDone comes after an initialized event"
rule_meaning ConfiguredTwice = codes "the client sends configurationDone once"
rule_meaning NoRequest = codes "a response answers an earlier request of the other side"
rule_meaning AnsweredTwice = codes "a request has one response"
rule_meaning OtherCommand = codes "a response has the command of its request"

-- What to do about a message that breaks the rule.
abbrev pub rule_fix : Rule → List ℕ
rule_fix EventFromClient =
    codes "if > and < are exchanged in the input, fix the program that wrote it"
rule_fix NotInitialized = codes "start to record before the client connects"
rule_fix StillInitializing =
    codes "let the sender wait for that response; a trace made from a log may have another order"
rule_fix InitializeTwice =
    codes "if the recording has two sessions, split it; otherwise fix the program that sent it"
rule_fix AfterDisconnect =
    codes "if the recording has two sessions, split it; otherwise fix the program that sent it"
rule_fix SeqUsed =
    codes "if the recording has two sessions, split it; otherwise fix the program that sent it"
rule_fix ConfiguredEarly =
    codes "let the client wait for that event; a trace made from a log may have another order"
rule_fix ConfiguredTwice = codes "fix the client"
rule_fix NoRequest = codes "let the recorder write each message before it passes it on"
rule_fix AnsweredTwice = codes "fix the program that sent the response"
rule_fix OtherCommand = codes "fix the program that sent the response"
