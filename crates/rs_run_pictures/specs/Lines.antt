-- Public: the lines of the picture of a run: a sequence diagram, in the syntax of Mermaid.
use Rattle.std.specs.Prelude.{ℕ, Bool, true, false, ◌==◌, ◌&&◌, List, [], ◌∷◌, ◌++◌, codes, length, if◌then◌else◌, Option, Some, None, slice_get}
use Rattle.std.specs.Fmt.{decimal}
use Rattle.rs_model.specs.Data.{Machine_data, Names_data}
use Rattle.rs_model.specs.declared.graph.Label.{Label}
use Rattle.rs_model.specs.declared.graph.Role.{Role}
use Rattle.rs_model.specs.declared.machines.Act.{Act}
use Rattle.rs_model.specs.declared.machines.Act.TheVariants as act
use Rattle.rs_model.specs.declared.values.Sort.{Sort}
use Rattle.rs_text.specs.NamePlaces.{name_at}
use Rattle.rs_text.specs.Shown.{shown_sort, shown_text}
use Rattle.rs_core.specs.declared.playing.End.{End}
use Rattle.rs_core.specs.declared.playing.End.TheVariants as end
use Rattle.rs_core.specs.declared.transcripts.Entry.{Entry}
use Rattle.rs_pictures.specs.Lines.{note_text, participant}
use Rattle.rs_pictures.specs.Sequences.{participants_text}
use Rattle.rs_run_pictures.specs.Acts.{acts_of}
use Rattle.rs_run_pictures.specs.Rounds.{acts_in_rounds}
use Rattle.rs_run_pictures.specs.declared.scenes.DrawnAct.{DrawnAct}

-- a line of the diagram
abbrev pub line : List ℕ → List ℕ
line words = codes "    " ++ words ++ codes "\n"

-- a message: its label, and its sort in parentheses
abbrev pub message_text : Names_data → Label → Sort → List ℕ
message_text names label sort = name_at names.labels label.0 ++ codes "(" ++ shown_text (shown_sort sort) ++ codes ")"

-- how many messages the queue holds after an act
abbrev pub waiting_text : ℕ → List ℕ
waiting_text many = codes ", " ++ decimal many ++ codes " waiting"

-- an act of a role in a line of its own: a send is an arrow with an open head, and a receive a note over the receiver
abbrev pub act_words : Names_data → (role : ℕ) → Act → (waiting : ℕ) → List ℕ
act_words names role (act.Puts peer label sort) waiting =
    participant role ++ codes "-)" ++ participant peer.0 ++ codes ": " ++ message_text names label sort ++ waiting_text waiting
act_words names role (act.Takes peer label sort) waiting =
    codes "Note over " ++ participant role ++ codes ": takes " ++ message_text names label sort ++ codes " of " ++ name_at names.roles peer.0 ++ waiting_text waiting

-- a send in one line with its receive: an arrow with a filled head
abbrev pub both_words : Names_data → (role : ℕ) → Act → List ℕ
both_words names role (act.Puts peer label sort) = participant role ++ codes "->>" ++ participant peer.0 ++ codes ": " ++ message_text names label sort
both_words names role (act.Takes peer label sort) = []

-- an act sends the only message that waits in its queue, and the other act takes it
abbrev pub takes_it : (sender : ℕ) → Act → (waiting taker : ℕ) → Act → Bool
takes_it sender (act.Puts receiver label sort) waiting taker (act.Takes peer other_label other_sort) = (receiver.0 == taker) && (peer.0 == sender) && (waiting == 1)
takes_it sender _ waiting taker _ = false

-- the first act, if there is one, sends a message that the second one, if there is one, takes
abbrev pub is_taken : Option DrawnAct → Option DrawnAct → Bool
is_taken (Some a) (Some b) = takes_it a.role a.act a.waiting b.role b.act
is_taken None _ = false
is_taken (Some a) None = false

-- the lines of an act between the act before it and the next one: a receive that follows its send has none of its own
abbrev pub act_text : Names_data → (before : Option DrawnAct) → DrawnAct → (next : Option DrawnAct) → List ℕ
act_text names before a next =
    if is_taken before (Some a) then []
    else if is_taken (Some a) next then line (both_words names a.role a.act)
    else line (act_words names a.role a.act a.waiting)

-- the lines of acts, after the act before them
abbrev pub acts_text : Names_data → (before : Option DrawnAct) → List DrawnAct → List ℕ
acts_text names before [] = []
acts_text names before (a ∷ later) = act_text names before a (slice_get later 0) ++ acts_text names (Some a) later

-- the last line says how the run ended: all roles have ended; a role has met the limit; or no role can act, since the sender's queue to
-- the receiver is full
abbrev pub end_words : Names_data → End → List ℕ
end_words names end.Ended = note_text (length names.roles) ++ codes "end"
end_words names (end.Stopped role) = codes "Note over " ++ participant role.0 ++ codes ": stopped"
end_words names (end.Full sender receiver) = codes "Note over " ++ participant sender.0 ++ codes ": full to " ++ name_at names.roles receiver.0

-- the picture of a run: the participants in role order, the acts in the order of the rounds, and how the run ended
abbrev pub run_picture : Names_data → List Machine_data → (capacity : ℕ) → List (List Entry) → End → List ℕ
run_picture names machines capacity transcripts e =
    codes "sequenceDiagram\n" ++ participants_text 0 names.roles ++ acts_text names None (acts_in_rounds capacity (acts_of machines transcripts)) ++ line (end_words names e)
