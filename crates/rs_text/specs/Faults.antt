-- Public: kinds of faults.
use Rattle.std.specs.Prelude.{ℕ, List, [], codes}
use Rattle.rs_text.specs.declared.tokens.FaultKind.{FaultKind}
use Rattle.rs_text.specs.declared.tokens.FaultKind.TheVariants as fault
use Rattle.rs_text.specs.declared.faults.TextKind.{TextKind}
use Rattle.rs_text.specs.declared.faults.TextKind.TheVariants as kind
use Rattle.rs_text.specs.declared.faults.Wanted.{Wanted}
use Rattle.rs_text.specs.declared.faults.Wanted.TheVariants as wanted

-- of two faults at one token the one with the lesser number is told
abbrev pub kind_number : TextKind → ℕ
kind_number (kind.Expected w) = 1
kind_number kind.UnknownRole = 2
kind_number kind.UnboundName = 3
kind_number kind.NameTwice = 4
kind_number kind.TooDeep = 5
kind_number kind.TooManyRoles = 6
kind_number kind.TooManyNodes = 7
kind_number kind.NoMemory = 8
kind_number kind.Unguarded = 9
kind_number kind.TooManyLabels = 10
kind_number kind.BadByte = 11
kind_number kind.NumberTooLarge = 12
kind_number kind.NameTooLong = 13
kind_number kind.TooManyActs = 14

-- the fault of a text with a faulty token
abbrev pub kind_of : FaultKind → TextKind
kind_of fault.BadByte = kind.BadByte
kind_of fault.NumberTooLarge = kind.NumberTooLarge
kind_of fault.NameTooLong = kind.NameTooLong

-- what a fault's line says was wanted in a derivation alone
abbrev pub wanted_in_derivation : Wanted → List ℕ
wanted_in_derivation wanted.DerivationOrEnd = codes "derivation or the end"
wanted_in_derivation wanted.BoundOrFormat = codes "bound or format"
wanted_in_derivation wanted.FormatNumber = codes "2"
wanted_in_derivation wanted.Bound = codes "bound"
wanted_in_derivation wanted.BoundNumber = codes "number from 1 to 64"
wanted_in_derivation wanted.PendingOrNode = codes "pending or node"
wanted_in_derivation wanted.PendingNumber = codes "pending number"
wanted_in_derivation wanted.CommaPendingOrNode = codes ", pending or node"
wanted_in_derivation wanted.With = codes "with"
wanted_in_derivation wanted.Above = codes "above"
wanted_in_derivation wanted.Node = codes "node"
wanted_in_derivation wanted.NodeOrCloseBrace = codes "node or }"
wanted_in_derivation wanted.Number = codes "number"
wanted_in_derivation wanted.OpenBracket = codes "["
wanted_in_derivation wanted.ActOrCloseBracket = codes "act or ]"
wanted_in_derivation wanted.CommaOrCloseBracket = codes ", or ]"
wanted_in_derivation wanted.Rank = codes "rank"
wanted_in_derivation wanted.Next = codes "next"
wanted_in_derivation wanted.NumberOrCloseBracket = codes "number or ]"
wanted_in_derivation _ = []

-- what a fault's line says was wanted
abbrev pub wanted_text : Wanted → List ℕ
wanted_text wanted.Roles = codes "roles"
wanted_text wanted.Role = codes "role"
wanted_text wanted.Comma = codes ","
wanted_text wanted.CommaOrProtocol = codes ", or protocol"
wanted_text wanted.Body = codes "body"
wanted_text wanted.Name = codes "name"
wanted_text wanted.Dot = codes "."
wanted_text wanted.ColonOrBrace = codes ": or {"
wanted_text wanted.LabelOrBrace = codes "label or {"
wanted_text wanted.Label = codes "label"
wanted_text wanted.OpenParen = codes "("
wanted_text wanted.SortOrCloseParen = codes "sort or )"
wanted_text wanted.CloseParen = codes ")"
wanted_text wanted.CommaOrCloseBrace = codes ", or }"
wanted_text wanted.Colon = codes ":"
wanted_text wanted.PartOrEnd = codes "machine, table, derivation or the end"
wanted_text wanted.State = codes "state"
wanted_text wanted.StateOrCloseBrace = codes "state or }"
wanted_text wanted.RoleOrEnd = codes "role or end"
wanted_text wanted.NextState = codes "next state"
wanted_text wanted.OpenBrace = codes "{"
wanted_text wanted.Mark = codes "! or ?"
wanted_text w = wanted_in_derivation w
