-- The labels of a document's parts are those of its lines, and have the same names when the text is read again.
use Rattle.std.proofs.Common.{◌≡◌, ℕ, zero, suc, ◌<◌, ◌≤◌, Bool, true, false, List, [], ◌∷◌, ◌++◌, length, map, refl, sym, ap, ◌∙◌, subst, arith, Some, None, Option, slice_get, if◌then◌else◌}
use Rattle.std.proofs.lemmas.Option.{none-some, same_Some, slice_get_within}
use Rattle.std.specs.List.{AllByRecursion, flat_map}
use Rattle.rs_bodies.proofs.GraphsAgain.{lone_tree_spelt}
use Rattle.rs_bodies.specs.Graph.{labels_of}
use Rattle.rs_bodies.specs.declared.dialects.Dialect.TheVariants.{Talks}
use Rattle.rs_bodies.specs.declared.dialects.Mark.{Mark}
use Rattle.rs_bodies.specs.declared.dialects.Mark.TheVariants as mark
use Rattle.rs_derivations.proofs.Again.{listed}
use Rattle.rs_derivations.proofs.Listed.{IsListed}
use Rattle.rs_derivations.specs.Canonical.{tree_of, tree_of_act}
use Rattle.rs_derivations.specs.Derivations.{acts_of, labels_of_acts}
use Rattle.rs_derivations.specs.PendingLists.{lists_of}
use Rattle.rs_derivations.specs.Printable.{label_number}
use Rattle.rs_derive.proofs.Mapped.{map_at}
use Rattle.rs_derive.specs.Data.{DNode_data, Derivation_data}
use Rattle.rs_documents.proofs.DerivationsAgain.{all_acts, in_text, trees_of}
use Rattle.rs_documents.proofs.MachinesAgain.{Renumbers}
use Rattle.rs_documents.proofs.MoreNames.{back_among, first_among, front_among, grown_new, grown_old, later_among, name_there, number_kept}
use Rattle.rs_documents.proofs.OwnTexts.{own_is_printed, own_stays}
use Rattle.rs_documents.proofs.ProtocolsAgain.{labels_are_first}
use Rattle.rs_documents.specs.Again.{CanBeReadAgain, HasLabel, HasLabelBehind, InDerivation, InMachine, arm_by, labels_of_lines, labels_of_own, labels_of_own_text, labels_of_text, machine_by, number_among, state_by}
use Rattle.rs_documents.specs.Canonical.{AreCanonicalMachines, AreShown, CanBeWritten, IsCanonicalDocument, IsOwnText}
use Rattle.rs_documents.specs.Data.{Document_data}
use Rattle.rs_global.proofs.Canonical.{spelt_enough, taken_stands, written}
use Rattle.rs_global.specs.Enough.{AreEnough}
use Rattle.rs_global.specs.Graph.{no_names}
use Rattle.rs_global.specs.Kinds.{names_of, protocols}
use Rattle.rs_global.specs.Spells.{SpellsProtocol}
use Rattle.rs_global.specs.Texts.{protocol_text}
use Rattle.rs_machines.specs.Machines.{state_by_mark}
use Rattle.rs_model.specs.Data.{Machine_data, Names_data, Protocol_data}
use Rattle.rs_model.specs.declared.graph.Arm.{Arm}
use Rattle.rs_model.specs.declared.graph.Role.{Role}
use Rattle.rs_model.specs.declared.limits.TheConstants.{MOST_LABELS}
use Rattle.rs_model.specs.declared.machines.Act.{Act}
use Rattle.rs_model.specs.declared.machines.Act.TheVariants as act
use Rattle.rs_model.specs.declared.machines.State.{State}
use Rattle.rs_model.specs.declared.machines.State.TheVariants.{Puts, Takes}
use Rattle.rs_text.proofs.Naming.{at_among, grown_append, grown_differ, place_at}
use Rattle.rs_text.specs.Names.{is_among, names_with, number_or, place_of}
use Rattle.rs_text.specs.NamePlaces.{name_at, text_or_none}
use Rattle.rs_text.specs.Sound.{IsSound}

-- ---- which labels are used

abbrev pub ArmsUse : (ℕ → Type 0) → List Arm → Type 0
ArmsUse U arms = (i : ℕ) (a : Arm) → slice_get arms i ≡ Some a → U a.label.0

abbrev pub ActsUse : (ℕ → Type 0) → List Act → Type 0
ActsUse U acts = (i : ℕ) (a : Act) → slice_get acts i ≡ Some a → U (label_number a)

pub record MachineUses (U : ℕ → Type 0) (m : Machine_data) : Type 0 where
  pub puts : (s : ℕ) (peer : Role) (arms : List Arm) → slice_get m.states s ≡ Some (Puts peer arms) → ArmsUse U arms
  pub takes : (s : ℕ) (peer : Role) (arms : List Arm) → slice_get m.states s ≡ Some (Takes peer arms) → ArmsUse U arms

pub uses_too : (U V : ℕ → Type 0) → ((k : ℕ) → U k → V k) → (m : Machine_data) → MachineUses U m → MachineUses V m
uses_too U V more m u = record { puts = λ s q arms e i a at. more a.label.0 (u.puts s q arms e i a at); takes = λ s q arms e i a at. more a.label.0 (u.takes s q arms e i a at) }

-- ---- labels by number

-- the label of the number is one of these
pub record IsAmong (names labels : List (List ℕ)) (k : ℕ) : Type 0 where
  pub named : k < length names
  pub among : is_among (name_at names k) labels ≡ true

pub there_at : (names : List (List ℕ)) (k : ℕ) → k < length names → slice_get names k ≡ Some (name_at names k)
there_at [] k lt = absurd (omega (arith, lt))
there_at (x ∷ names) zero lt = refl
there_at (x ∷ names) (suc k) lt = there_at names k (omega (arith, lt))

-- ---- the labels of a machine are those of its line or its table

-- a number, or the next one where its label isn't among these
abbrev put_out : (names labels : List (List ℕ)) → ℕ → ℕ
put_out names labels k = if is_among (name_at names k) labels then k else suc k

kept_in : (b : Bool) (k : ℕ) → b ≡ true → (if b then k else suc k) ≡ k
kept_in true k e = refl
kept_in false k e = absurd (cc (e))

is_in : (b : Bool) (k : ℕ) → (if b then k else suc k) ≡ k → b ≡ true
is_in true k e = refl
is_in false k e = absurd (omega (arith, e))

state_kept : (f : ℕ → ℕ) (m : Machine_data) → machine_by f m ≡ m → (s : ℕ) (x : State) → slice_get m.states s ≡ Some x → state_by f x ≡ x
state_kept f m e s x at = same_Some (state_by f x) x (sym (map_at (state_by f) m.states s x at) ∙ ap (λ (z : Machine_data). slice_get z.states s) e ∙ at)

arm_kept : (f : ℕ → ℕ) (arms : List Arm) → map (arm_by f) arms ≡ arms → (i : ℕ) (a : Arm) → slice_get arms i ≡ Some a → f a.label.0 ≡ a.label.0
arm_kept f arms e i a at = ap (λ (z : Arm). z.label.0) (same_Some (arm_by f a) a (sym (map_at (arm_by f) arms i a at) ∙ ap (λ (z : List Arm). slice_get z i) e ∙ at))

puts_kept : (f : ℕ → ℕ) (q : Role) (arms : List Arm) → state_by f (Puts q arms) ≡ Puts q arms → map (arm_by f) arms ≡ arms
puts_kept f q arms e = cc (e)

takes_kept : (f : ℕ → ℕ) (q : Role) (arms : List Arm) → state_by f (Takes q arms) ≡ Takes q arms → map (arm_by f) arms ≡ arms
takes_kept f q arms e = cc (e)

own_uses : (names : Names_data) (machine : Machine_data) (text : List ℕ) → IsSound names → length names.labels ≤ MOST_LABELS → CanBeWritten names machine
    → (own : IsOwnText names machine text) → MachineUses (IsAmong names.labels (labels_of_own_text names machine text own)) machine
own_uses names machine text sound few w own =
    let labels : List (List ℕ) = labels_of_own_text names machine text own in
    let f : ℕ → ℕ = put_out names.labels labels in
    let known = (own_is_printed names machine text sound few w own).known in
    let stays : Renumbers f names.labels names.labels labels = λ l a. kept_in (is_among (name_at names.labels (number_or (place_of l names.labels))) labels)
    (number_or (place_of l names.labels)) (subst (λ (z : List ℕ). is_among z labels ≡ true) (sym (name_there names.labels l (known l a))) a) in
    let kept : machine_by f machine ≡ machine = own_stays names machine text f sound few w own stays in
    let enough = w.enough in
    record {
      puts = λ s q arms at i a ea. record {
        named = enough.labels s i mark.Puts q arms a at ea;
        among = is_in (is_among (name_at names.labels a.label.0) labels) a.label.0 (arm_kept f arms (puts_kept f q arms (state_kept f machine kept s (Puts q arms) at)) i a ea);
      };
      takes = λ s q arms at i a ea. record {
        named = enough.labels s i mark.Takes q arms a at ea;
        among = is_in (is_among (name_at names.labels a.label.0) labels) a.label.0 (arm_kept f arms (takes_kept f q arms (state_kept f machine kept s (Takes q arms) at)) i a ea);
      };
    }

-- the machines of a document use the labels of its lines
pub lines_use : (names : Names_data) (machines : List (Option Machine_data)) (text : List ℕ) → IsSound names → length names.labels ≤ MOST_LABELS → AreShown names machines
    → (lines : AreCanonicalMachines names machines text)
    → (p : ℕ) (m : Machine_data) → slice_get machines p ≡ Some (Some m) → MachineUses (IsAmong names.labels (labels_of_lines names machines text lines)) m
lines_use names [] text sound few shown lines p m at = absurd (none-some (Some m) at)
lines_use names (None ∷ machines) text sound few shown lines zero m at = absurd (cc (at))
lines_use names (None ∷ machines) text sound few shown lines (suc p) m at = lines_use names machines text sound few shown.1 lines p m at
lines_use names (Some x ∷ machines) text sound few shown lines zero m at =
    let mine : List (List ℕ) = labels_of_own_text names x lines.0 lines.2 in
    let more : List (List ℕ) = labels_of_lines names machines lines.1 lines.3 in
    let same : x ≡ m = cc (at) in
    subst (MachineUses (IsAmong names.labels (mine ++ more))) same
    (uses_too (IsAmong names.labels mine) (IsAmong names.labels (mine ++ more)) (λ k w. record { named = w.named; among = front_among (name_at names.labels k) mine more w.among }) x
    (own_uses names x lines.0 sound few shown.0 lines.2))
lines_use names (Some x ∷ machines) text sound few shown lines (suc p) m at =
    let mine : List (List ℕ) = labels_of_own_text names x lines.0 lines.2 in
    let more : List (List ℕ) = labels_of_lines names machines lines.1 lines.3 in
    uses_too (IsAmong names.labels more) (IsAmong names.labels (mine ++ more)) (λ k w. record { named = w.named; among = back_among (name_at names.labels k) mine more w.among }) m
    (lines_use names machines lines.1 sound few shown.1 lines.3 p m at)

-- ---- and those of a derivation are those of its lines

act_label : (names : Names_data) (a : Act) (more : List (List ℕ)) → is_among (name_at names.labels (label_number a)) ((tree_of_act names a).label ∷ more) ≡ true
act_label names (act.Puts peer label sort) more = first_among (name_at names.labels label.0) more
act_label names (act.Takes peer label sort) more = first_among (name_at names.labels label.0) more

acts_use : (names : Names_data) (acts : List Act) (k : ℕ) (a : Act) → slice_get acts k ≡ Some a → is_among (name_at names.labels (label_number a)) (labels_of_acts (map (tree_of_act names) acts)) ≡ true
acts_use names [] k a e = absurd (none-some a e)
acts_use names (x ∷ acts) zero a e =
    let more : List (List ℕ) = labels_of_acts (map (tree_of_act names) acts) in
    let same : x ≡ a = cc e in
    subst (λ (z : Act). is_among (name_at names.labels (label_number z)) ((tree_of_act names x).label ∷ more) ≡ true) same (act_label names x more)
acts_use names (x ∷ acts) (suc k) a e =
    later_among (name_at names.labels (label_number a)) (tree_of_act names x).label (labels_of_acts (map (tree_of_act names) acts)) (acts_use names acts k a e)

nodes_use : (names : Names_data) (lists : List (List Act)) (nodes : List DNode_data) → AllByRecursion (IsListed lists) (map (λ (n : DNode_data). n.pending) nodes)
    → (i : ℕ) (n : DNode_data) → slice_get nodes i ≡ Some n → (k : ℕ) (a : Act) → slice_get n.pending k ≡ Some a
    → is_among (name_at names.labels (label_number a)) (labels_of_acts (all_acts (trees_of names lists))) ≡ true
nodes_use names lists [] h i n e k a at = absurd (none-some n e)
nodes_use names lists (x ∷ nodes) h zero n e k a at =
    let same : n ≡ x = cc e in
    in_text names lists x.pending (name_at names.labels (label_number a)) h.0 (acts_use names x.pending k a (subst (λ (z : DNode_data). slice_get z.pending k ≡ Some a) same at))
nodes_use names lists (x ∷ nodes) h (suc i) n e k a at = nodes_use names lists nodes h.1 i n e k a at

owns_use : (names : Names_data) (derivations : List (Option Derivation_data)) (p : ℕ) (d : Derivation_data) → slice_get derivations p ≡ Some (Some d)
    → (i : ℕ) (n : DNode_data) → slice_get d.nodes i ≡ Some n → (k : ℕ) (a : Act) → slice_get n.pending k ≡ Some a
    → is_among (name_at names.labels (label_number a)) (flat_map (labels_of_own names) derivations) ≡ true
owns_use names [] p d e i n en k a at = absurd (none-some (Some d) e)
owns_use names (None ∷ derivations) zero d e i n en k a at = absurd (cc e)
owns_use names (None ∷ derivations) (suc p) d e i n en k a at = owns_use names derivations p d e i n en k a at
owns_use names (Some x ∷ derivations) zero d e i n en k a at =
    let mine : List (List ℕ) = labels_of_acts (acts_of (tree_of names x)) in
    let same : d ≡ x = cc e in
    front_among (name_at names.labels (label_number a)) mine (flat_map (labels_of_own names) derivations)
    (nodes_use names (lists_of x) x.nodes (listed x) i n (subst (λ (z : Derivation_data). slice_get z.nodes i ≡ Some n) same en) k a at)
owns_use names (Some x ∷ derivations) (suc p) d e i n en k a at =
    back_among (name_at names.labels (label_number a)) (labels_of_acts (acts_of (tree_of names x))) (flat_map (labels_of_own names) derivations) (owns_use names derivations p d e i n en k a at)

-- ---- when the text is read again

abbrev first_of : (d : Document_data) (text : List ℕ) → IsCanonicalDocument d text → List (List ℕ)
first_of d text c = names_with [] (labels_of Talks c.protocol.tree.body)

abbrev rest_of : (d : Document_data) (text : List ℕ) → IsCanonicalDocument d text → List (List ℕ)
rest_of d text c = labels_of_lines d.names d.machines c.back c.machines ++ flat_map (labels_of_own d.names) d.derivations

split : (d : Document_data) (text : List ℕ) (c : IsCanonicalDocument d text) → labels_of_text d text c ≡ names_with (first_of d text c) (rest_of d text c)
split d text c = grown_append (labels_of Talks c.protocol.tree.body) (rest_of d text c) []

-- the label is one of these, and has its number still
pub record StaysAmong (names labels : List (List ℕ)) (k : ℕ) : Type 0 where
  pub among : IsAmong names labels k
  pub number : number_among names labels k ≡ k

-- so it is with the labels of the protocol
pub first_stays : (d : Document_data) (text : List ℕ) → CanBeReadAgain d → (c : IsCanonicalDocument d text) → (k : ℕ) → k < length (first_of d text c) → StaysAmong d.names.labels (labels_of_text d text c) k
first_stays d text r c k lt =
    let names : List (List ℕ) = d.names.labels in
    let first : List (List ℕ) = first_of d text c in
    let rest : List (List ℕ) = rest_of d text c in
    let labels : List (List ℕ) = labels_of_text d text c in
    let l : List ℕ = name_at first k in
    let here : slice_get first k ≡ Some l = there_at first k lt in
    let taken = labels_are_first d.names d.protocol c.front r.shown.shaped r.shown.sound r.shown.enough c.protocol in
    let stands : slice_get names k ≡ Some l = taken_stands names (length first) k l (subst (λ (z : List (List ℕ)). slice_get z k ≡ Some l) taken here) in
    let same : name_at names k ≡ l = ap text_or_none stands in
    let among : is_among l first ≡ true = at_among first k l here in
    let more : is_among l labels ≡ true = subst (λ (z : List (List ℕ)). is_among l z ≡ true) (sym (split d text c)) (grown_old l rest first among) in
    let number : number_or (place_of l labels) ≡ k = ap (λ (z : List (List ℕ)). number_or (place_of l z)) (split d text c) ∙ number_kept first rest l among
    ∙ ap number_or (place_at first k l (grown_differ (labels_of Talks c.protocol.tree.body) [] refl) here) in
    record {
      among = record { named = slice_get_within names k l stands; among = subst (λ (z : List ℕ). is_among z labels ≡ true) (sym same) more };
      number = ap (λ (z : List ℕ). number_or (place_of z labels)) same ∙ number;
    }

first_has : (d : Document_data) (text : List ℕ) → CanBeReadAgain d → (c : IsCanonicalDocument d text) → (k : ℕ) → HasLabel d.protocol k → k < length (first_of d text c)
first_has d text r c k h =
    let tree = c.protocol.tree in
    let w = written d.names d.protocol tree r.shown.shaped r.shown.sound r.shown.enough c.protocol.canonical in
    let own : AreEnough (names_of tree) d.protocol = spelt_enough (protocol_text tree) 0 (names_of tree) d.protocol (length (protocol_text tree))
    (subst (λ (z : Protocol_data). SpellsProtocol (protocol_text tree) 0 (names_of tree) z (length (protocol_text tree))) w.graph_is (lone_tree_spelt protocols no_names tree w.words w.fits)) in
    subst (λ (z : ℕ). z < length (first_of d text c)) h.number (own.labels h.node h.place h.sender h.receiver h.arms h.arm h.talks h.stands)

pub first_named : (d : Document_data) (text : List ℕ) (k : ℕ) → CanBeReadAgain d → (c : IsCanonicalDocument d text) → HasLabel d.protocol k
    → name_at (labels_of_text d text c) k ≡ name_at d.names.labels k
first_named d text k r c h =
    let labels : List (List ℕ) = labels_of_text d text c in
    let x = first_stays d text r c k (first_has d text r c k h) in
    ap (name_at labels) (sym x.number) ∙ name_there labels (name_at d.names.labels k) x.among.among

-- the label stands in the text's lines behind the protocol
line_among : (names labels : List (List ℕ)) (machine : Machine_data) (n place : ℕ) (mark : Mark) (peer : Role) (arms : List Arm) (arm : Arm) → MachineUses (IsAmong names labels) machine
    → slice_get machine.states n ≡ Some (state_by_mark mark peer arms) → slice_get arms place ≡ Some arm → is_among (name_at names arm.label.0) labels ≡ true
line_among names labels machine n place mark.Puts peer arms arm u at e = (u.puts n peer arms at place arm e).among
line_among names labels machine n place mark.Takes peer arms arm u at e = (u.takes n peer arms at place arm e).among

behind_among : (d : Document_data) (text : List ℕ) (k : ℕ) → CanBeReadAgain d → (c : IsCanonicalDocument d text) → HasLabelBehind d k → is_among (name_at d.names.labels k) (rest_of d text c) ≡ true
behind_among d text k r c (InMachine role n place machine mark peer arms arm own at stands number) =
    let names : List (List ℕ) = d.names.labels in
    let lines : List (List ℕ) = labels_of_lines d.names d.machines c.back c.machines in
    let uses = lines_use d.names d.machines c.back r.shown.sound r.bounded r.shown.machines c.machines role machine own in
    front_among (name_at names k) lines (flat_map (labels_of_own d.names) d.derivations)
    (subst (λ (z : ℕ). is_among (name_at names z) lines ≡ true) number (line_among names lines machine n place mark peer arms arm uses at stands))
behind_among d text k r c (InDerivation role n place derivation node a own at stands number) =
    let names : List (List ℕ) = d.names.labels in
    let owns : List (List ℕ) = flat_map (labels_of_own d.names) d.derivations in
    back_among (name_at names k) (labels_of_lines d.names d.machines c.back c.machines) owns
    (subst (λ (z : ℕ). is_among (name_at names z) owns ≡ true) number (owns_use d.names d.derivations role derivation own n node at place a stands))

pub behind_named : (d : Document_data) (text : List ℕ) (k : ℕ) → CanBeReadAgain d → (c : IsCanonicalDocument d text) → HasLabelBehind d k
    → name_at (labels_of_text d text c) (number_among d.names.labels (labels_of_text d text c) k) ≡ name_at d.names.labels k
behind_named d text k r c h =
    let l : List ℕ = name_at d.names.labels k in
    let rest : List (List ℕ) = rest_of d text c in
    let there : is_among l (labels_of_text d text c) ≡ true = subst (λ (z : List (List ℕ)). is_among l z ≡ true) (sym (split d text c)) (grown_new l rest (first_of d text c) (behind_among d text k r c h)) in
    name_there (labels_of_text d text c) l there
