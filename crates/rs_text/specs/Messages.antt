-- Public: what a reader makes of the tokens of a message, LABEL "(" [ sort ] ")".
use Rattle.std.specs.Prelude.{◌≡◌, ℕ, List, [], ◌∷◌, ◌++◌, length, nat_le, Option, Some, None, Result, Ok, Err, if◌then◌else◌}
use Rattle.rs_model.specs.declared.graph.Label.{Label}
use Rattle.rs_model.specs.declared.limits.TheConstants.{MOST_LABELS}
use Rattle.rs_model.specs.declared.values.Sort.{Sort}
use Rattle.rs_model.specs.declared.values.Sort.TheVariants as sort
use Rattle.rs_text.specs.declared.faults.TextFault.{TextFault}
use Rattle.rs_text.specs.declared.faults.TextKind.TheVariants as kind
use Rattle.rs_text.specs.declared.faults.Wanted.{Wanted}
use Rattle.rs_text.specs.declared.faults.Wanted.TheVariants as wanted
use Rattle.rs_text.specs.declared.messages.MessagePlace.{MessagePlace}
use Rattle.rs_text.specs.declared.messages.MessagePlace.TheVariants as place
use Rattle.rs_text.specs.declared.messages.MessageStep.{MessageStep}
use Rattle.rs_text.specs.declared.messages.MessageStep.TheVariants as step
use Rattle.rs_text.specs.declared.reading.Stop.{Stop}
use Rattle.rs_text.specs.Names.{place_of}
use Rattle.rs_text.specs.Readings.{fault, expected, Fails}
use Rattle.rs_text.specs.Seen.{word_text, sort_named}
use Rattle.rs_text.specs.Signs.{Sign, plain, open_paren, close_paren}

-- what a token makes of a message: it goes on at a place, with these labels, or it is read
pub data MessageFed : Type 0 where
  goes_on : (labels : List (List ℕ)) → (place : MessagePlace) → MessageFed
  ends : (label : Label) → (sort : Sort) → MessageFed

-- what is read with one token more, or the fault of the token
abbrev pub Fed : Type 0
Fed = Result MessageFed TextFault

-- the label with that number
abbrev pub label_of_number : ℕ → Label
label_of_number k = record { 0 = k }

-- the label k, or a new one, where there is room for one more
abbrev pub feed_label_number : Option ℕ → List ℕ → ℕ → List (List ℕ) → Fed
feed_label_number (Some k) word at labels = Ok (goes_on labels (place.Paren (label_of_number k)))
feed_label_number None word at labels = if nat_le MOST_LABELS (length labels) then fault kind.TooManyLabels at else Ok (goes_on (labels ++ word ∷ []) (place.Paren (label_of_number (length labels))))

-- the label
abbrev pub feed_label : Wanted → Option (List ℕ) → ℕ → List (List ℕ) → Fed
feed_label w None at labels = expected w at
feed_label w (Some word) at labels = feed_label_number (place_of word labels) word at labels

-- the open parenthesis behind the label
abbrev pub feed_paren : Label → Sign → ℕ → List (List ℕ) → Fed
feed_paren label open_paren at labels = Ok (goes_on labels (place.Sort label))
feed_paren label _ at labels = expected wanted.OpenParen at

-- the sort that a word names, where it names one
abbrev pub feed_sort_word : Option Sort → Label → ℕ → List (List ℕ) → Fed
feed_sort_word None label at labels = expected wanted.SortOrCloseParen at
feed_sort_word (Some s) label at labels = Ok (goes_on labels (place.Close label s))

-- the sort, or the close parenthesis where there is none
abbrev pub feed_sort : Label → Sign → ℕ → List (List ℕ) → Fed
feed_sort label close_paren at labels = Ok (ends label sort.Unit)
feed_sort label (plain word) at labels = feed_sort_word (sort_named word) label at labels
feed_sort label _ at labels = expected wanted.SortOrCloseParen at

-- the close parenthesis behind the sort
abbrev pub feed_close : Label → Sort → Sign → ℕ → List (List ℕ) → Fed
feed_close label s close_paren at labels = Ok (ends label s)
feed_close label s _ at labels = expected wanted.CloseParen at

-- one token, at that place, with the labels that are there
abbrev pub feed_message : MessagePlace → Sign → ℕ → List (List ℕ) → Fed
feed_message place.Label t at labels = feed_label wanted.Label (word_text t) at labels
feed_message (place.Paren label) t at labels = feed_paren label t at labels
feed_message (place.Sort label) t at labels = feed_sort label t at labels
feed_message (place.Close label s) t at labels = feed_close label s t at labels

-- a call takes one step of the message; where it ends or stops the labels are as before
abbrev pub Feeds : Result MessageStep Stop → Fed → (old new : List (List ℕ)) → Type 0
Feeds (Ok (step.GoesOn p)) fed old new = fed ≡ Ok (goes_on new p)
Feeds (Ok (step.Ends label s)) fed old new = (fed ≡ Ok (ends label s)) × (new ≡ old)
Feeds (Err stop) fed old new = Fails stop fed × (new ≡ old)
