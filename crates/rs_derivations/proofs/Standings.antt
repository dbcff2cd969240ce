-- The reader at each place: what it has read, and what it makes of a token there.
use Rattle.std.proofs.Common.{◌≡◌, ℕ, zero, suc, List, [], ◌∷◌, ◌++◌, codes, length, map, slice_index_or, Bool, true, false, ◌&&◌, ◌==◌, nat_le, if◌then◌else◌, Option, Some, None, Ok, refl, sym, ap, ◌∙◌, subst, append_assoc}
use Rattle.std.proofs.Common.{append-nil}
use Rattle.std.proofs.lemmas.List.{map-append, length-map}
use Rattle.std.specs.List.{list_all}
use Rattle.std.proofs.lemmas.List.Folds.{list_all-append}
use Rattle.rs_model.specs.declared.machines.Act.{Act}
use Rattle.rs_text.specs.Arms.{sort_or_unit}
use Rattle.std.specs.Option.{option_map}
use Rattle.rs_model.specs.Data.{Names_data}
use Rattle.rs_model.specs.declared.graph.Label.{Label}
use Rattle.rs_model.specs.declared.graph.Role.{Role}
use Rattle.rs_model.specs.declared.limits.TheConstants.{MOST_BOUND, MOST_LABELS, MOST_CANDIDATES}
use Rattle.rs_model.specs.declared.values.Sort.{Sort}
use Rattle.rs_prefix.specs.declared.earliest.ActKind.{ActKind}
use Rattle.rs_derive.specs.Data.{DNode_data}
use Rattle.rs_text.specs.declared.faults.TextKind.{TextKind}
use Rattle.rs_text.specs.declared.faults.TextKind.TheVariants as kind
use Rattle.rs_text.specs.declared.faults.Wanted.{Wanted}
use Rattle.rs_text.specs.declared.faults.Wanted.TheVariants as wanted
use Rattle.rs_text.specs.Names.{names_with, is_among, place_of, number_or}
use Rattle.rs_text.specs.Readings.{fault, expected}
use Rattle.rs_text.specs.Seen.{plain_text, word_text, sort_named}
use Rattle.rs_text.specs.Signs.{Sign, plain, open_paren, close_paren}
use Rattle.rs_text.specs.declared.messages.MessagePlace.{MessagePlace}
use Rattle.rs_text.specs.declared.messages.MessagePlace.TheVariants as place
use Rattle.rs_text.specs.Messages.{goes_on, label_of_number, feed_label_number, feed_label, feed_paren, feed_sort_word, feed_sort, feed_close}
use Rattle.rs_text.proofs.Naming.{among, not_among, place_of_new, place_stays, grown_append, grown_among, absent_by}
use Rattle.rs_text.proofs.Basics.{both, or_first}
use Rattle.rs_derivations.specs.declared.formats.Format.{Format}
use Rattle.rs_derivations.specs.declared.formats.Format.TheVariants.{One, Two}
use Rattle.rs_derivations.specs.declared.reading.Mode.{Mode}
use Rattle.rs_derivations.specs.declared.reading.Mode.TheVariants as mode
use Rattle.rs_derivations.specs.Cuts.{ActCut, behind_peer, behind_mark, behind_label, behind_paren, behind_sort, ActsCut, at_act, in_act, behind_act, NodeCut, at_number, at_colon, at_state, at_pending, at_above}
use Rattle.rs_derivations.specs.Cuts.{at_rank_word, at_rank, at_next_word, at_nexts, at_next, behind_next, Head, ActsHome, of_node, of_list, Cut, at_begin, at_role, behind_role, at_format_number, behind_format, at_bound}
use Rattle.rs_derivations.specs.Cuts.{at_brace, at_lists, at_list_number, at_list_colon, in_acts, in_node, at_pending_number, at_above_word, at_end, wanted_of, node_wanted, act_wanted, next_wanted, format_of_home}
use Rattle.rs_derivations.specs.Data.{Reader_data}
use Rattle.rs_derivations.specs.Derivations.{acts_of_number, acts_of_pending, acts_of, labels_of_acts, act_of_kind, act_of_tree, node_of_tree}
use Rattle.rs_text.specs.KnownNames.{with_new_labels, role_named, label_named}
use Rattle.rs_derivations.specs.Faults.{fault_of_node, fault_of_peer, acts_before, fault_of}
use Rattle.rs_text.specs.TokenTests.{number_value}
use Rattle.rs_text.specs.NameFaults.{fault_of_role, fault_of_label}
use Rattle.rs_derivations.specs.Feeding.{Fed, start_of_derivation, no_node, behind_state, feed_derivation_role, feed_role, feed_format, feed_bound, behind_brace, first_node, beginning, feed_beginning, feed_list_number}
use Rattle.rs_derivations.specs.Feeding.{feed_node, feed_state, feed_pending_number, feed_peer, feed_act, feed_mark, in_message, feed_list_end, feed_behind_acts, feed_above, feed_rank, feed_next, feed_at, passes}
use Rattle.rs_derivations.specs.Feeding.{mark_kind, is_none_of, is_some_of, is_bound}
use Rattle.rs_text.specs.TokenTests.{is_colon, is_comma, is_open_brace, is_close_brace, is_open_bracket, is_close_bracket, is_keyword}
use Rattle.rs_derivations.specs.Trees.{ActTree, ListsTree, PendingTree, NodeTree}
use Rattle.rs_derivations.proofs.Grows.{act_tree, node_tree, derivation_tree, first_head, listed, acted, mark_step, label_step, sorted_step, act_grows, first_step, begin_step, list_step, act_step, acts_end}
use Rattle.rs_derivations.proofs.Grows.{number_step, state_step, with_step, above_step, rank_step, ended, next_step, role_step, format_step, bound_step, opened, grows}
use Rattle.rs_derivations.proofs.Changes.{all_acts, labels_more, labels_at, labels_so, labels_in, labels_whole, node_acts, home_role}

-- ---- the reader at a place

-- a node as far as it is read
abbrev drafted : Names_data → ℕ → List ActTree → ℕ → ℕ → List ℕ → DNode_data
drafted names s acts a r next = record { state = s; pending = map (act_of_tree names) acts; above = a; rank = r; next = next }

abbrev draft : Names_data → (f : Format) → ListsTree f → NodeCut f → DNode_data
draft names f lists at_number = no_node
draft names f lists at_colon = no_node
draft names f lists at_state = no_node
draft names f lists (at_pending s) = drafted names s [] 0 0 []
draft names f lists (at_above s p) = drafted names s (acts_of_pending f lists p) 0 0 []
draft names f lists (at_rank_word s p a) = drafted names s (acts_of_pending f lists p) a 0 []
draft names f lists (at_rank s p a) = drafted names s (acts_of_pending f lists p) a 0 []
draft names f lists (at_next_word s p a r) = drafted names s (acts_of_pending f lists p) a r []
draft names f lists (at_nexts s p a r) = drafted names s (acts_of_pending f lists p) a r []
draft names f lists (at_next s p a r next) = drafted names s (acts_of_pending f lists p) a r next
draft names f lists (behind_next s p a r x xs) = drafted names s (acts_of_pending f lists p) a r (x ∷ xs)

abbrev acts_read : Names_data → List ActTree → List Act
acts_read names acts = map (act_of_tree names) acts

abbrev read_lists : Names_data → (f : Format) → ListsTree f → List (List Act)
read_lists names One none = []
read_lists names Two lists = map (acts_read names) lists

abbrev act_mode : Names_data → ActCut → Mode
act_mode names (behind_peer p) = mode.AtMark (role_named names p)
act_mode names (behind_mark p k) = mode.InMessage (role_named names p) k place.Label
act_mode names (behind_label p k l) = mode.InMessage (role_named names p) k (place.Paren (label_named names l))
act_mode names (behind_paren p k l) = mode.InMessage (role_named names p) k (place.Sort (label_named names l))
act_mode names (behind_sort p k l q) = mode.InMessage (role_named names p) k (place.Close (label_named names l) q)

abbrev acts_mode : Names_data → ActsCut → Mode
acts_mode names (at_act acts) = mode.AtAct
acts_mode names (in_act acts a) = act_mode names a
acts_mode names (behind_act x xs) = mode.BehindAct

abbrev acts_in : ActsCut → List ActTree
acts_in (at_act acts) = acts
acts_in (in_act acts a) = acts
acts_in (behind_act x xs) = x ∷ xs

abbrev node_mode : (f : Format) → NodeCut f → Mode
node_mode f at_number = mode.AtNode
node_mode f at_colon = mode.AtColon
node_mode f at_state = mode.AtState
node_mode f (at_pending s) = behind_state f
node_mode f (at_above s p) = mode.AtAbove
node_mode f (at_rank_word s p a) = mode.AtRankWord
node_mode f (at_rank s p a) = mode.AtRank
node_mode f (at_next_word s p a r) = mode.AtNextWord
node_mode f (at_nexts s p a r) = mode.AtNexts
node_mode f (at_next s p a r next) = mode.AtNext
node_mode f (behind_next s p a r x xs) = mode.BehindNext

abbrev standing : Names_data → (f : Format) → Head f → List (NodeTree f) → DNode_data → Mode → Reader_data
standing names f h ns n m = record {
  roles = names.roles;
  labels = names.labels;
  role = role_named names h.role;
  format = f;
  bound = h.bound;
  lists = read_lists names f h.lists;
  acts = [];
  nodes = map (node_of_tree names f h.lists) ns;
  node = n;
  mode = m;
}

abbrev home_bound : ActsHome → ℕ
home_bound (of_node h ns s) = h.bound
home_bound (of_list h) = h.bound

abbrev home_lists : Names_data → ActsHome → List (List Act)
home_lists names (of_node h ns s) = []
home_lists names (of_list h) = map (acts_read names) h.lists

abbrev home_nodes : Names_data → ActsHome → List DNode_data
home_nodes names (of_node h ns s) = map (node_of_tree names One h.lists) ns
home_nodes names (of_list h) = []

abbrev home_node : ActsHome → DNode_data
home_node (of_node h ns s) = record { state = s; pending = []; above = 0; rank = 0; next = [] }
home_node (of_list h) = no_node

abbrev home_standing : Names_data → ActsHome → List Act → Mode → Reader_data
home_standing names home acts m = record {
  roles = names.roles;
  labels = names.labels;
  role = role_named names (home_role home);
  format = format_of_home home;
  bound = home_bound home;
  lists = home_lists names home;
  acts = acts;
  nodes = home_nodes names home;
  node = home_node home;
  mode = m;
}

abbrev at_home : Names_data → ActsHome → ActsCut → Reader_data
at_home names home c = home_standing names home (acts_read names (acts_in c)) (acts_mode names c)

abbrev pub stand : Names_data → Cut → Reader_data
stand old at_begin = start_of_derivation old
stand old at_role = record (start_of_derivation old) { mode = mode.AtRole }
stand old (behind_role x) = record (start_of_derivation old) { role = role_named old x; mode = mode.BehindRole }
stand old (at_format_number x) = record (start_of_derivation old) { role = role_named old x; mode = mode.AtFormatNumber }
stand old (behind_format x) = record (start_of_derivation old) { role = role_named old x; format = Two; mode = mode.BehindFormat }
stand old (at_bound f x) = record (start_of_derivation old) { role = role_named old x; format = f; mode = mode.AtBound }
stand old (at_brace f x b) = record (start_of_derivation old) { role = role_named old x; format = f; bound = b; mode = mode.AtBrace }
stand old (at_lists x b) = record (start_of_derivation old) { role = role_named old x; format = Two; bound = b; mode = mode.AtLists }
stand old (at_list_number h) = standing (with_new_labels old (labels_so Two h [] [])) Two h [] no_node mode.AtListNumber
stand old (at_list_colon h) = standing (with_new_labels old (labels_so Two h [] [])) Two h [] no_node mode.AtListColon
stand old (in_acts home c) = at_home (with_new_labels old (labels_of_acts (acts_before home) ++ labels_at c)) home c
stand old (in_node f h ns p) = let names = with_new_labels old (labels_so f h ns (node_acts f p)) in standing names f h ns (draft names f h.lists p) (node_mode f p)
stand old (at_pending_number h ns s) = let names = with_new_labels old (labels_so Two h ns []) in standing names Two h ns (drafted names s [] 0 0 []) mode.AtPendingNumber
stand old (at_above_word h ns s n) = let names = with_new_labels old (labels_so Two h ns []) in standing names Two h ns (drafted names s (acts_of_number h.lists n) 0 0 []) mode.AtAboveWord
stand old (at_end t) = standing (with_new_labels old (labels_of_acts (acts_of t))) t.format (record { role = t.role; bound = t.bound; lists = t.lists }) t.nodes no_node mode.Behind

-- what the reader is to make of a token: another one, a fault, or another place
abbrev pub told : Names_data → Option Cut → Option TextKind → Wanted → ℕ → Fed
told old None f w at = expected w at
told old (Some d) None w at = Ok (stand old d)
told old (Some d) (Some k) w at = fault k at

-- ---- steps with no rule

abbrev good : Reader_data → Fed
good r = Ok r

at_if : (old : Names_data) (c : Bool) (d : Cut) (r : Reader_data) (w : Wanted) (at : ℕ) → r ≡ stand old d → (if c then good r else expected w at) ≡ told old (if c then Some d else None) None w at
at_if old true d r w at e = ap good e
at_if old false d r w at e = refl

at_else : (old : Names_data) (c : Bool) (d : Cut) (o : Option Cut) (r : Reader_data) (x : Fed) (w : Wanted) (at : ℕ) → r ≡ stand old d → x ≡ told old o None w at
    → (if c then good r else x) ≡ told old (if c then Some d else o) None w at
at_else old true d o r x w at e f = ap good e
at_else old false d o r x w at e f = f

at_either : (old : Names_data) (b c : Bool) (d e : Cut) (q r : Reader_data) (w : Wanted) (at : ℕ) → q ≡ stand old d → r ≡ stand old e
    → (if b then good q else if c then good r else expected w at) ≡ told old (if b then Some d else if c then Some e else None) None w at
at_either old b c d e q r w at f g = at_else old b d (if c then Some e else None) q (if c then good r else expected w at) w at f (at_if old c e r w at g)

-- ---- acts

-- with these labels before, and one more act
abbrev with_act : Names_data → ActsHome → List (List ℕ) → List ActTree → ActTree → Reader_data
with_act old home ls acts a =
    let names = with_new_labels old (labels_of_acts (acts_before home) ++ ls) in
    home_standing names home (acts_read names acts ++ act_of_tree names a ∷ []) mode.BehindAct

label_names : (xs ys : List ActTree) → labels_of_acts (xs ++ ys) ≡ labels_of_acts xs ++ labels_of_acts ys
label_names xs ys = map-append (λ (a : ActTree). a.label) xs ys

act_more : (old : Names_data) (home : ActsHome) (ls : List (List ℕ)) (acts : List ActTree) (a : ActTree)
    → let names = with_new_labels old (labels_of_acts (acts_before home) ++ ls) in with_act old home ls acts a ≡ home_standing names home (acts_read names (acts ++ a ∷ [])) mode.BehindAct
act_more old home ls acts a =
    let names : Names_data = with_new_labels old (labels_of_acts (acts_before home) ++ ls) in
    ap (λ z. home_standing names home z mode.BehindAct) (sym (map-append (act_of_tree names) acts (a ∷ [])))

acted_stands : (old : Names_data) (home : ActsHome) (acts : List ActTree) (a : ActTree) → with_act old home (labels_of_acts acts ++ a.label ∷ []) acts a ≡ stand old (in_acts home (acted acts a))
acted_stands old home [] a = refl
acted_stands old home (y ∷ ys) a = ap (λ z. with_act old home z (y ∷ ys) a) (sym (label_names (y ∷ ys) (a ∷ []))) ∙ act_more old home (labels_of_acts ((y ∷ ys) ++ a ∷ [])) (y ∷ ys) a

-- ---- lists

-- at a place after the lists
abbrev behind_lists : Names_data → Head Two → Mode → Reader_data
behind_lists old h m = standing (with_new_labels old (labels_so Two h [] [])) Two h [] no_node m

-- with these labels before, and one more list
abbrev with_list : Names_data → Head Two → List (List ℕ) → List ActTree → Mode → Reader_data
with_list old h ls acts m =
    let names = with_new_labels old ls in
    record {
      roles = names.roles;
      labels = names.labels;
      role = role_named names h.role;
      format = Two;
      bound = h.bound;
      lists = map (acts_read names) h.lists ++ acts_read names acts ∷ [];
      acts = [];
      nodes = [];
      node = no_node;
      mode = m;
    }

listed_stands : (old : Names_data) (h : Head Two) (acts : List ActTree) (m : Mode) → with_list old h (labels_of_acts (all_acts h.lists) ++ labels_of_acts acts) acts m ≡ behind_lists old (listed h acts) m
listed_stands old h acts m =
    let names : Names_data = with_new_labels old (labels_so Two (listed h acts) [] []) in
    ap (λ z. with_list old h z acts m) (sym (append-nil (labels_of_acts (all_acts (h.lists ++ acts ∷ []))) ∙ labels_more h.lists acts))
    ∙ ap (λ z. record {
      roles = names.roles;
      labels = names.labels;
      role = role_named names h.role;
      format = Two;
      bound = h.bound;
      lists = z;
      acts = [];
      nodes = [];
      node = no_node;
      mode = m;
    }) (sym (map-append (acts_read names) h.lists (acts ∷ [])))

first_told : (old : Names_data) (h : Head Two) (w : Wanted) (at : ℕ) (feed : Option Mode → Fed) → feed None ≡ expected w at → ((m : Mode) → feed (Some m) ≡ good (behind_lists old h m)) → (b : Bool)
    → feed (if b then Some mode.AtColon else None) ≡ told old (if b then Some (in_node Two h [] at_colon) else None) None w at
first_told old h w at feed none some true = some mode.AtColon
first_told old h w at feed none some false = none

zero_told : (old : Names_data) (h : Head Two) (w : Wanted) (at : ℕ) (feed : Option Mode → Fed) → feed None ≡ expected w at → ((m : Mode) → feed (Some m) ≡ good (behind_lists old h m)) → (o : Option ℕ)
    → feed (first_node o) ≡ told old (first_step h o) None w at
zero_told old h w at feed none some None = none
zero_told old h w at feed none some (Some n) = first_told old h w at feed none some (n == 0)

begun_told : (old : Names_data) (h : Head Two) (w : Wanted) (at : ℕ) (feed : Option Mode → Fed) → feed None ≡ expected w at → ((m : Mode) → feed (Some m) ≡ good (behind_lists old h m)) → (b : Bool)
    (o : Option ℕ) → feed (if b then Some mode.AtListNumber else first_node o) ≡ told old (if b then Some (at_list_number h) else first_step h o) None w at
begun_told old h w at feed none some true o = some mode.AtListNumber
begun_told old h w at feed none some false o = zero_told old h w at feed none some o

begin_told : (old : Names_data) (h : Head Two) (w : Wanted) (at : ℕ) (feed : Option Mode → Fed) → feed None ≡ expected w at → ((m : Mode) → feed (Some m) ≡ good (behind_lists old h m)) → (t : Sign)
    → feed (beginning t) ≡ told old (begin_step h t) None w at
begin_told old h w at feed none some t = begun_told old h w at feed none some (is_keyword (codes "pending") t) (number_value t)

lists_told : (old : Names_data) (x : List ℕ) (b : ℕ) (t : Sign) (at : ℕ)
    → feed_beginning (beginning t) at (stand old (at_lists x b)) ≡ told old (begin_step (first_head Two x b) t) None wanted.PendingOrNode at
lists_told old x b t at =
    begin_told old (first_head Two x b) wanted.PendingOrNode at (λ m. feed_beginning m at (stand old (at_lists x b))) refl (λ m. refl) t

list_count : (old : Names_data) (h : Head Two) → length (stand old (at_list_number h)).lists ≡ length h.lists
list_count old h = length-map h.lists (acts_read (with_new_labels old (labels_so Two h [] [])))

list_told : (old : Names_data) (h : Head Two) (at : ℕ) (o : Option ℕ) → feed_list_number o at (stand old (at_list_number h)) ≡ told old (list_step h o) None wanted.PendingNumber at
list_told old h at None = refl
list_told old h at (Some n) =
    ap (λ z. if n == suc z then good (stand old (at_list_colon h)) else expected wanted.PendingNumber at) (list_count old h)
    ∙ at_if old (n == suc (length h.lists)) (at_list_colon h) (stand old (at_list_colon h)) wanted.PendingNumber at refl

at_place : (g : List ActTree → List Act) (lists : List (List ActTree)) (k : ℕ) → g [] ≡ [] → slice_index_or (map g lists) k [] ≡ g (slice_index_or lists k [])
at_place g [] zero e = sym e
at_place g [] (suc k) e = sym e
at_place g (x ∷ xs) zero e = refl
at_place g (x ∷ xs) (suc k) e = at_place g xs k e

of_number : (g : List ActTree → List Act) (lists : List (List ActTree)) (n : ℕ) → g [] ≡ [] → acts_of_number (map g lists) n ≡ g (acts_of_number lists n)
of_number g lists zero e = sym e
of_number g lists (suc k) e = at_place g lists k e

with_told : (old : Names_data) (h : Head Two) (ns : List (NodeTree Two)) (s : ℕ) (at : ℕ) (o : Option ℕ)
    → feed_pending_number o at (stand old (at_pending_number h ns s)) ≡ told old (with_step h ns s o) None wanted.PendingNumber at
with_told old h ns s at None = refl
with_told old h ns s at (Some n) =
    let names : Names_data = with_new_labels old (labels_so Two h ns []) in
    let shape : List Act → Reader_data = λ acts. standing names Two h ns (record { state = s; pending = acts; above = 0; rank = 0; next = [] }) mode.AtAboveWord in
    ap (λ z. if nat_le n z then good (shape (acts_of_number (map (acts_read names) h.lists) n)) else expected wanted.PendingNumber at) (length-map h.lists (acts_read names))
    ∙ at_if old (nat_le n (length h.lists)) (at_above_word h ns s n) (shape (acts_of_number (map (acts_read names) h.lists) n)) wanted.PendingNumber at
    (ap shape (of_number (acts_read names) h.lists n refl))

-- ---- nodes

abbrev with_nodes : Names_data → (f : Format) → Head f → List (NodeTree f) → List (List ℕ) → NodeTree f → Reader_data
with_nodes old f h ns ls n =
    let names = with_new_labels old ls in
    record {
      roles = names.roles;
      labels = names.labels;
      role = role_named names h.role;
      format = f;
      bound = h.bound;
      lists = read_lists names f h.lists;
      acts = [];
      nodes = map (node_of_tree names f h.lists) ns ++ node_of_tree names f h.lists n ∷ [];
      node = no_node;
      mode = mode.AtNode;
    }

ended_stands : (old : Names_data) (f : Format) (h : Head f) (ns : List (NodeTree f)) (n : NodeTree f) (ls : List (List ℕ)) → labels_so f h (ns ++ n ∷ []) [] ≡ ls
    → with_nodes old f h ns ls n ≡ stand old (ended f h ns n)
ended_stands old f h ns n ls e =
    let names : Names_data = with_new_labels old (labels_so f h (ns ++ n ∷ []) []) in
    ap (λ z. with_nodes old f h ns z n) (sym e)
    ∙ ap (λ z. record {
      roles = names.roles;
      labels = names.labels;
      role = role_named names h.role;
      format = f;
      bound = h.bound;
      lists = read_lists names f h.lists;
      acts = [];
      nodes = z;
      node = no_node;
      mode = mode.AtNode;
    }) (sym (map-append (node_of_tree names f h.lists) ns (n ∷ [])))

closed_stands : (old : Names_data) (f : Format) (h : Head f) (ns : List (NodeTree f))
    → record (stand old (in_node f h ns at_number)) { mode = mode.Behind } ≡ stand old (at_end (derivation_tree f h ns))
closed_stands old f h ns = ap (λ z. standing (with_new_labels old z) f h ns no_node mode.Behind) (append-nil (labels_in (at_end (derivation_tree f h ns))))

-- ---- a new label changes none that was there

abbrev pub Known : List (List ℕ) → List (List ℕ) → Type 0
Known names xs = list_all (λ x. is_among x names) xs ≡ true

here : (names : List (List ℕ)) (x : List ℕ) (b : Bool) → is_among x names ≡ b → is_among x (if b then names else names ++ x ∷ []) ≡ true
here names x true e = e
here names x false e = among (names ++ x ∷ []) x 0 (length names) (place_of_new names x (absent_by (place_of x names) x names refl e))

stays_among : (names xs : List (List ℕ)) (x : List ℕ) → is_among x names ≡ true → is_among x (names_with names xs) ≡ true
stays_among names xs x h = grown_among xs names x ∙ or_first (is_among x names) (is_among x xs) h

pub grown_known : (xs names : List (List ℕ)) → Known (names_with names xs) xs
grown_known [] names = refl
grown_known (x ∷ xs) names =
    let first : List (List ℕ) = if is_among x names then names else names ++ x ∷ [] in
    let a : is_among x (names_with first xs) ≡ true = stays_among first xs x (here names x (is_among x names) refl) in
    ap (λ z. z && list_all (λ y. is_among y (names_with first xs)) xs) a ∙ grown_known xs first

pub known_parts : (names xs ys : List (List ℕ)) → Known names (xs ++ ys) → Known names xs × Known names ys
known_parts names xs ys h = both (list_all (λ x. is_among x names) xs) (list_all (λ x. is_among x names) ys) (sym (list_all-append (λ x. is_among x names) xs ys) ∙ h)

-- names with these labels
abbrev having : Names_data → List (List ℕ) → Names_data
having old labels = record { roles = old.roles; labels = labels }

number_kept : (labels : List (List ℕ)) (w x : List ℕ) (o : Option ℕ) → place_of x labels ≡ o → is_among x labels ≡ true → number_or (place_of x (labels ++ w ∷ [])) ≡ number_or (place_of x labels)
number_kept labels w x None e h = absurd (cc (sym h ∙ not_among labels x 0 e))
number_kept labels w x (Some n) e h = ap number_or (place_stays labels (w ∷ []) x n e) ∙ sym (ap number_or e)

label_kept : (old : Names_data) (labels : List (List ℕ)) (w x : List ℕ) → is_among x labels ≡ true → label_named (having old (labels ++ w ∷ [])) x ≡ label_named (having old labels) x
label_kept old labels w x h = let f : ℕ → Label = λ n. record { 0 = n } in ap f (number_kept labels w x (place_of x labels) refl h)

acts_kept : (old : Names_data) (labels : List (List ℕ)) (w : List ℕ) (acts : List ActTree) → Known labels (labels_of_acts acts)
    → map (act_of_tree (having old (labels ++ w ∷ []))) acts ≡ map (act_of_tree (having old labels)) acts
acts_kept old labels w [] h = refl
acts_kept old labels w (a ∷ acts) h =
    let k = both (is_among a.label labels) (list_all (λ x. is_among x labels) (labels_of_acts acts)) h in
    ap (λ z. act_of_kind a.kind (role_named old a.peer) z (sort_or_unit a.sort) ∷ map (act_of_tree (having old (labels ++ w ∷ []))) acts) (label_kept old labels w a.label k.0)
    ∙ ap (λ z. act_of_tree (having old labels) a ∷ z) (acts_kept old labels w acts k.1)

known_acts : (names : List (List ℕ)) (xs ys : List ActTree) → Known names (labels_of_acts (xs ++ ys)) → Known names (labels_of_acts xs) × Known names (labels_of_acts ys)
known_acts names xs ys h = known_parts names (labels_of_acts xs) (labels_of_acts ys) (subst (Known names) (label_names xs ys) h)

abbrev node_pending : NodeTree One → List ActTree
node_pending n = n.pending

nodes_kept : (old : Names_data) (labels : List (List ℕ)) (w : List ℕ) (lists : ListsTree One) (ns : List (NodeTree One)) → Known labels (labels_of_acts (all_acts (map node_pending ns)))
    → map (node_of_tree (having old (labels ++ w ∷ [])) One lists) ns ≡ map (node_of_tree (having old labels) One lists) ns
nodes_kept old labels w lists [] h = refl
nodes_kept old labels w lists (n ∷ ns) h =
    let k = known_acts labels n.pending (all_acts (map node_pending ns)) h in
    ap (λ z. record { state = n.state; pending = z; above = n.above; rank = n.rank; next = n.next } ∷ map (node_of_tree (having old (labels ++ w ∷ [])) One lists) ns)
    (acts_kept old labels w n.pending k.0)
    ∙ ap (λ z. node_of_tree (having old labels) One lists n ∷ z) (nodes_kept old labels w lists ns k.1)

lists_kept : (old : Names_data) (labels : List (List ℕ)) (w : List ℕ) (lists : List (List ActTree)) → Known labels (labels_of_acts (all_acts lists))
    → map (acts_read (having old (labels ++ w ∷ []))) lists ≡ map (acts_read (having old labels)) lists
lists_kept old labels w [] h = refl
lists_kept old labels w (acts ∷ lists) h =
    let k = known_acts labels acts (all_acts lists) h in
    ap (λ z. z ∷ map (acts_read (having old (labels ++ w ∷ []))) lists) (acts_kept old labels w acts k.0)
    ∙ ap (λ z. acts_read (having old labels) acts ∷ z) (lists_kept old labels w lists k.1)

home_lists_kept : (old : Names_data) (labels : List (List ℕ)) (w : List ℕ) (home : ActsHome) → Known labels (labels_of_acts (acts_before home))
    → home_lists (having old (labels ++ w ∷ [])) home ≡ home_lists (having old labels) home
home_lists_kept old labels w (of_node h ns s) k = refl
home_lists_kept old labels w (of_list h) k = lists_kept old labels w h.lists k

home_nodes_kept : (old : Names_data) (labels : List (List ℕ)) (w : List ℕ) (home : ActsHome) → Known labels (labels_of_acts (acts_before home))
    → home_nodes (having old (labels ++ w ∷ [])) home ≡ home_nodes (having old labels) home
home_nodes_kept old labels w (of_node h ns s) k = nodes_kept old labels w h.lists ns k
home_nodes_kept old labels w (of_list h) k = refl

-- ---- labels

-- the labels before a further one
abbrev labels_there : Names_data → ActsHome → List ActTree → List (List ℕ)
labels_there old home acts = names_with old.labels (labels_of_acts (acts_before home) ++ labels_of_acts acts)

-- the reader after a label, where the names have these labels
abbrev at_label : Names_data → ActsHome → List ActTree → List ℕ → ActKind → List ℕ → List (List ℕ) → Reader_data
at_label old home acts p k w labels =
    home_standing (having old labels) home (acts_read (having old labels) acts) (mode.InMessage (role_named old p) k (place.Paren (label_named (having old labels) w)))

-- the labels with this one
labels_then : (old : Names_data) (home : ActsHome) (acts : List ActTree) (w : List ℕ)
    → names_with old.labels (labels_of_acts (acts_before home) ++ (labels_of_acts acts ++ w ∷ [])) ≡ names_with (labels_there old home acts) (w ∷ [])
labels_then old home acts w =
    ap (names_with old.labels) (sym (append_assoc (labels_of_acts (acts_before home)) (labels_of_acts acts) (w ∷ [])))
    ∙ grown_append (labels_of_acts (acts_before home) ++ labels_of_acts acts) (w ∷ []) old.labels

old_label : (old : Names_data) (home : ActsHome) (acts : List ActTree) (w : List ℕ) → is_among w (labels_there old home acts) ≡ true
    → names_with old.labels (labels_of_acts (acts_before home) ++ (labels_of_acts acts ++ w ∷ [])) ≡ labels_there old home acts
old_label old home acts w h = let labels : List (List ℕ) = labels_there old home acts in labels_then old home acts w ∙ ap (λ z. if z then labels else labels ++ w ∷ []) h

new_label : (old : Names_data) (home : ActsHome) (acts : List ActTree) (w : List ℕ) → is_among w (labels_there old home acts) ≡ false
    → names_with old.labels (labels_of_acts (acts_before home) ++ (labels_of_acts acts ++ w ∷ [])) ≡ labels_there old home acts ++ w ∷ []
new_label old home acts w h = let labels : List (List ℕ) = labels_there old home acts in labels_then old home acts w ∙ ap (λ z. if z then labels else labels ++ w ∷ []) h

new_label_stands : (old : Names_data) (home : ActsHome) (acts : List ActTree) (p : List ℕ) (k : ActKind) (w : List ℕ) (labels : List (List ℕ)) → labels ≡ labels_there old home acts
    → place_of w labels ≡ None
    → home_standing (having old labels) home (acts_read (having old labels) acts) (mode.InMessage (role_named old p) k (place.Paren (label_of_number (length labels)))) ≡ record
    (at_label old home acts p k w (labels ++ w ∷ [])) { labels = labels }
new_label_stands old home acts p k w labels e none =
    let known : Known labels (labels_of_acts (acts_before home) ++ labels_of_acts acts)
    = subst (λ (z : List (List ℕ)). Known z (labels_of_acts (acts_before home) ++ labels_of_acts acts)) (sym e) (grown_known (labels_of_acts (acts_before home) ++ labels_of_acts acts) old.labels) in
    let parts = known_parts labels (labels_of_acts (acts_before home)) (labels_of_acts acts) known in
    let number : label_of_number (length labels) ≡ label_named (having old (labels ++ w ∷ [])) w = ap (λ z. label_of_number (number_or z)) (sym (place_of_new labels w none)) in
    let more : Names_data = having old (labels ++ w ∷ []) in
    let shape : List (List Act) → List DNode_data → List Act → Label → Reader_data
    = λ lists nodes acts l. record {
      roles = old.roles;
      labels = labels;
      role = role_named old (home_role home);
      format = format_of_home home;
      bound = home_bound home;
      lists = lists;
      acts = acts;
      nodes = nodes;
      node = home_node home;
      mode = mode.InMessage (role_named old p) k (place.Paren l);
    } in
    let first : Label = label_of_number (length labels) in
    ap (λ z. shape z (home_nodes (having old labels) home) (acts_read (having old labels) acts) first) (sym (home_lists_kept old labels w home parts.0))
    ∙ ap (λ z. shape (home_lists more home) z (acts_read (having old labels) acts) first) (sym (home_nodes_kept old labels w home parts.0))
    ∙ ap (λ z. shape (home_lists more home) (home_nodes more home) z first) (sym (acts_kept old labels w acts parts.1))
    ∙ ap (λ z. shape (home_lists more home) (home_nodes more home) (acts_read more acts) z) number

label_at : (old : Names_data) (home : ActsHome) (acts : List ActTree) (p : List ℕ) (k : ActKind) (w : List ℕ) (labels : List (List ℕ))
    → names_with old.labels (labels_of_acts (acts_before home) ++ (labels_of_acts acts ++ w ∷ [])) ≡ labels
    → at_label old home acts p k w labels ≡ stand old (in_acts home (in_act acts (behind_label p k w)))
label_at old home acts p k w labels e = ap (at_label old home acts p k w) (sym e)

label_room : (old : Names_data) (p : Role) (k : ActKind) (at : ℕ) (full : Bool) (d : Cut) (labels : List (List ℕ)) (x : MessagePlace) (r : Reader_data)
    → record r { labels = labels; mode = mode.InMessage p k x } ≡ stand old d
    → in_message p k (if full then fault kind.TooManyLabels at else Ok (goes_on labels x)) r ≡ told old (Some d) (if full then Some kind.TooManyLabels else None) wanted.Label at
label_room old p k at true d labels x r e = refl
label_room old p k at false d labels x r e = ap good e

label_told : (old : Names_data) (home : ActsHome) (acts : List ActTree) (p : List ℕ) (k : ActKind) (w : List ℕ) (at : ℕ) (o : Option ℕ) → place_of w (labels_there old home acts) ≡ o
    → in_message (role_named old p) k (feed_label_number o w at (labels_there old home acts)) (stand old (in_acts home (in_act acts (behind_mark p k)))) ≡ told old
    (Some (in_acts home (in_act acts (behind_label p k w)))) (fault_of_label (labels_there old home acts) (Some w)) wanted.Label at
label_told old home acts p k w at (Some n) e =
    let labels : List (List ℕ) = labels_there old home acts in
    let there : is_among w labels ≡ true = among labels w 0 n e in
    let d : Cut = in_acts home (in_act acts (behind_label p k w)) in
    ap (λ z. good (home_standing (having old labels) home (acts_read (having old labels) acts) (mode.InMessage (role_named old p) k (place.Paren (label_of_number (number_or z)))))) (sym e)
    ∙ ap good (label_at old home acts p k w labels (old_label old home acts w there))
    ∙ ap (λ z. told old (Some d) (if z then None else if nat_le MOST_LABELS (length labels) then Some kind.TooManyLabels else None) wanted.Label at) (sym there)
label_told old home acts p k w at None e =
    let labels : List (List ℕ) = labels_there old home acts in
    let absent : is_among w labels ≡ false = not_among labels w 0 e in
    let d : Cut = in_acts home (in_act acts (behind_label p k w)) in
    label_room old (role_named old p) k at (nat_le MOST_LABELS (length labels)) d (labels ++ w ∷ []) (place.Paren (label_of_number (length labels)))
    (stand old (in_acts home (in_act acts (behind_mark p k))))
    (ap (λ (z : Reader_data). record z { labels = labels ++ w ∷ [] }) (new_label_stands old home acts p k w labels refl e)
    ∙ label_at old home acts p k w (labels ++ w ∷ []) (new_label old home acts w absent))
    ∙ ap (λ z. told old (Some d) (if z then None else if nat_le MOST_LABELS (length labels) then Some kind.TooManyLabels else None) wanted.Label at) (sym absent)

labels_told : (old : Names_data) (home : ActsHome) (acts : List ActTree) (p : List ℕ) (k : ActKind) (at : ℕ) (o : Option (List ℕ))
    → in_message (role_named old p) k (feed_label wanted.Label o at (labels_there old home acts)) (stand old (in_acts home (in_act acts (behind_mark p k)))) ≡ told old
    (option_map (in_acts home) (label_step acts p k o)) (fault_of_label (labels_there old home acts) o) wanted.Label at
labels_told old home acts p k at None = refl
labels_told old home acts p k at (Some w) = label_told old home acts p k w at (place_of w (labels_there old home acts)) refl

-- ---- roles

role_there : (old : Names_data) (w : List ℕ) (at : ℕ) (d : Cut) (v : Wanted) (o : Option ℕ) (f : Role → Reader_data) → f (role_named old w) ≡ stand old d → place_of w old.roles ≡ o → (r : Fed)
    → ((n : ℕ) → o ≡ Some n → r ≡ good (f (record { 0 = n }))) → (o ≡ None → r ≡ fault kind.UnknownRole at) → r ≡ told old (Some d) (fault_of_role old (Some w)) v at
role_there old w at d v (Some n) f e h r g k =
    let role : ℕ → Role = λ n. record { 0 = n } in
    g n refl ∙ ap (λ z. good (f (role (number_or z)))) (sym h) ∙ ap good e ∙ ap (λ z. told old (Some d) (if z then None else Some kind.UnknownRole) v at) (sym (among old.roles w 0 n h))
role_there old w at d v None f e h r g k = k refl ∙ ap (λ z. told old (Some d) (if z then None else Some kind.UnknownRole) v at) (sym (not_among old.roles w 0 h))

own_told : (old : Names_data) (at : ℕ) (o : Option (List ℕ)) → feed_role o at (stand old at_role) ≡ told old (role_step o) (fault_of_role old o) wanted.Role at
own_told old at None = refl
own_told old at (Some w) =
    role_there old w at (behind_role w) wanted.Role (place_of w old.roles) (λ role. record (start_of_derivation old) { role = role; mode = mode.BehindRole }) refl refl
    (feed_derivation_role (place_of w old.roles) at (stand old at_role))
    (λ n e. ap (λ z. feed_derivation_role z at (stand old at_role)) e) (λ e. ap (λ z. feed_derivation_role z at (stand old at_role)) e)

-- where there is room for the act, its peer decides
peer_room : (old : Names_data) (home : ActsHome) (acts : List ActTree) (w : List ℕ) (at : ℕ) (full : Bool) (o : Option ℕ) → place_of w old.roles ≡ o
    → (r : Fed) → ((n : ℕ) → o ≡ Some n → r ≡ (if full then fault kind.TooManyActs at else good (record (stand old (in_acts home (at_act acts))) { mode = mode.AtMark (record { 0 = n }) })))
    → (o ≡ None → r ≡ fault kind.UnknownRole at) → (v : Wanted)
    → r ≡ told old (Some (in_acts home (in_act acts (behind_peer w)))) (if is_among w old.roles then (if full then Some kind.TooManyActs else None) else Some kind.UnknownRole) v at
peer_room old home acts w at true (Some n) h r g k v =
    g n refl ∙ ap (λ z. told old (Some (in_acts home (in_act acts (behind_peer w)))) (if z then Some kind.TooManyActs else Some kind.UnknownRole) v at) (sym (among old.roles w 0 n h))
peer_room old home acts w at false (Some n) h r g k v =
    let role : ℕ → Role = λ n. record { 0 = n } in
    g n refl ∙ ap (λ z. good (record (stand old (in_acts home (at_act acts))) { mode = mode.AtMark (role (number_or z)) })) (sym h)
    ∙ ap (λ z. told old (Some (in_acts home (in_act acts (behind_peer w)))) (if z then None else Some kind.UnknownRole) v at) (sym (among old.roles w 0 n h))
peer_room old home acts w at full None h r g k v =
    k refl
    ∙ ap (λ z. told old (Some (in_acts home (in_act acts (behind_peer w)))) (if z then (if full then Some kind.TooManyActs else None) else Some kind.UnknownRole) v at) (sym (not_among old.roles w 0 h))

peer_told : (old : Names_data) (home : ActsHome) (acts : List ActTree) (at : ℕ) (w : List ℕ) (v : Wanted)
    → feed_peer (place_of w old.roles) at (stand old (in_acts home (at_act acts))) ≡ told old (Some (in_acts home (in_act acts (behind_peer w)))) (fault_of_peer old (length acts) (Some w)) v at
peer_told old home acts at w v =
    let r : Reader_data = stand old (in_acts home (at_act acts)) in
    let names : Names_data = with_new_labels old (labels_of_acts (acts_before home) ++ labels_of_acts acts) in
    peer_room old home acts w at (nat_le MOST_BOUND (length acts)) (place_of w old.roles) refl (feed_peer (place_of w old.roles) at r)
    (λ n e. ap (λ z. feed_peer z at r) e
    ∙ ap (λ z. if nat_le MOST_BOUND z then fault kind.TooManyActs at else good (record r { mode = mode.AtMark (record { 0 = n }) })) (length-map acts (act_of_tree names)))
    (λ e. ap (λ z. feed_peer z at r) e) v

peers_told : (old : Names_data) (home : ActsHome) (acts : List ActTree) (at : ℕ) (c : Bool) (o : Option (List ℕ))
    → feed_act o c at (stand old (in_acts home (at_act acts))) ≡ told old (act_step home acts o c) (fault_of_peer old (length acts) o) (act_wanted (format_of_home home) acts) at
peers_told old home acts at c (Some w) = peer_told old home acts at w (act_wanted (format_of_home home) acts)
peers_told old (of_node h ns s) [] at true None = refl
peers_told old (of_node h ns s) [] at false None = refl
peers_told old (of_node h ns s) (y ∷ ys) at true None = refl
peers_told old (of_node h ns s) (y ∷ ys) at false None = refl
peers_told old (of_list h) acts at c None = refl

-- ---- the other steps

format_told : (old : Names_data) (x : List ℕ) (at : ℕ) (o : Option ℕ) → feed_format o at (stand old (at_format_number x)) ≡ told old (format_step x o) None wanted.FormatNumber at
format_told old x at None = refl
format_told old x at (Some n) = at_if old (n == 2) (behind_format x) (stand old (behind_format x)) wanted.FormatNumber at refl

bound_told : (old : Names_data) (f : Format) (x : List ℕ) (at : ℕ) (o : Option ℕ) → feed_bound o at (stand old (at_bound f x)) ≡ told old (bound_step f x o) None wanted.BoundNumber at
bound_told old f x at None = refl
bound_told old f x at (Some n) = at_if old (is_bound n) (at_brace f x n) (stand old (at_brace f x n)) wanted.BoundNumber at refl

brace_told : (old : Names_data) (f : Format) (x : List ℕ) (b : ℕ) (c : Bool) (at : ℕ)
    → passes c wanted.OpenBrace (behind_brace f) at (stand old (at_brace f x b)) ≡ told old (if c then Some (opened f x b) else None) None wanted.OpenBrace at
brace_told old One x b c at = at_if old c (opened One x b) (stand old (opened One x b)) wanted.OpenBrace at refl
brace_told old Two x b c at = at_if old c (opened Two x b) (stand old (opened Two x b)) wanted.OpenBrace at refl

wanted_same : {f : Format} (g : NodeTree f → DNode_data) (ns : List (NodeTree f)) → node_wanted (map g ns) ≡ node_wanted ns
wanted_same g [] = refl
wanted_same g (n ∷ ns) = refl

some_same : {f : Format} (g : NodeTree f → DNode_data) (ns : List (NodeTree f)) → is_some_of (map g ns) ≡ is_some_of ns
some_same g [] = refl
some_same g (n ∷ ns) = refl

number_if : (old : Names_data) (f : Format) (h : Head f) (ns : List (NodeTree f)) (at : ℕ) (right full : Bool) (r : Reader_data) (w : Wanted) → r ≡ stand old (in_node f h ns at_colon)
    → (if right then (if full then fault kind.TooManyNodes at else good r) else expected w at) ≡ told old (if right then Some (in_node f h ns at_colon) else None)
    (if right then (if full then Some kind.TooManyNodes else None) else None) w at
number_if old f h ns at true true r w e = refl
number_if old f h ns at true false r w e = ap good e
number_if old f h ns at false full r w e = refl

number_told : (old : Names_data) (f : Format) (h : Head f) (ns : List (NodeTree f)) (at : ℕ) (c : Bool) (o : Option ℕ)
    → feed_node o c at (stand old (in_node f h ns at_number)) ≡ told old (number_step f h ns o c) (fault_of_node (length ns) o) (node_wanted ns) at
number_told old f h ns at c (Some n) =
    let r : Reader_data = stand old (in_node f h ns at_number) in
    let q : Reader_data = stand old (in_node f h ns at_colon) in
    let g : NodeTree f → DNode_data = node_of_tree (with_new_labels old (labels_so f h ns [])) f h.lists in
    ap (λ z. if n == z then (if nat_le MOST_CANDIDATES z then fault kind.TooManyNodes at else good q) else expected (node_wanted r.nodes) at) (length-map ns g)
    ∙ ap (λ z. if n == length ns then (if nat_le MOST_CANDIDATES (length ns) then fault kind.TooManyNodes at else good q) else expected z at) (wanted_same g ns)
    ∙ number_if old f h ns at (n == length ns) (nat_le MOST_CANDIDATES (length ns)) q (node_wanted ns) refl
number_told old f h ns at c None =
    let r : Reader_data = record (stand old (in_node f h ns at_number)) { mode = mode.Behind } in
    let g : NodeTree f → DNode_data = node_of_tree (with_new_labels old (labels_so f h ns [])) f h.lists in
    ap (λ z. if c && z then good r else expected (node_wanted (map g ns)) at) (some_same g ns)
    ∙ ap (λ z. if c && is_some_of ns then good r else expected z at) (wanted_same g ns)
    ∙ at_if old (c && is_some_of ns) (at_end (derivation_tree f h ns)) r (node_wanted ns) at (closed_stands old f h ns)

state_told : (old : Names_data) (f : Format) (h : Head f) (ns : List (NodeTree f)) (at : ℕ) (o : Option ℕ)
    → feed_state o at (stand old (in_node f h ns at_state)) ≡ told old (state_step f h ns o) None wanted.Number at
state_told old f h ns at None = refl
state_told old f h ns at (Some n) = refl

pending_told : (old : Names_data) (f : Format) (h : Head f) (ns : List (NodeTree f)) (s : ℕ) (t : Sign) (at : ℕ)
    → let c : Cut = in_node f h ns (at_pending s) in feed_at (behind_state f) t at (stand old c) ≡ told old (grows c t) None (wanted_of c) at
pending_told old One h ns s t at = at_if old (is_open_bracket t) (in_acts (of_node h ns s) (at_act [])) (stand old (in_acts (of_node h ns s) (at_act []))) wanted.OpenBracket at refl
pending_told old Two h ns s t at = at_if old (is_keyword (codes "with") t) (at_pending_number h ns s) (stand old (at_pending_number h ns s)) wanted.With at refl

mark_told : (old : Names_data) (home : ActsHome) (acts : List ActTree) (p : List ℕ) (at : ℕ) (o : Option ActKind)
    → feed_mark (role_named old p) o at (stand old (in_acts home (in_act acts (behind_peer p)))) ≡ told old (option_map (in_acts home) (mark_step acts p o)) None wanted.Mark at
mark_told old home acts p at None = refl
mark_told old home acts p at (Some k) = refl

-- the label of the message, where it was read
abbrev label_there : Names_data → ActsHome → List ActTree → List ℕ → Label
label_there old home acts l = label_named (with_new_labels old (labels_of_acts (acts_before home) ++ (labels_of_acts acts ++ l ∷ []))) l

paren_told : (old : Names_data) (home : ActsHome) (acts : List ActTree) (p : List ℕ) (k : ActKind) (l : List ℕ) (t : Sign) (at : ℕ)
    → let r : Reader_data = stand old (in_acts home (in_act acts (behind_label p k l))) in
    in_message (role_named old p) k (feed_paren (label_there old home acts l) t at r.labels) r ≡ told old (option_map (in_acts home) (act_grows acts (behind_label p k l) t)) None wanted.OpenParen at
paren_told old home acts p k l open_paren at = refl
paren_told old home acts p k l _ at = refl

sorted_told : (old : Names_data) (home : ActsHome) (acts : List ActTree) (p : List ℕ) (k : ActKind) (l : List ℕ) (at : ℕ) (o : Option Sort)
    → let r : Reader_data = stand old (in_acts home (in_act acts (behind_paren p k l))) in
    in_message (role_named old p) k (feed_sort_word o (label_there old home acts l) at r.labels) r ≡ told old (option_map (in_acts home) (sorted_step acts p k l o)) None wanted.SortOrCloseParen at
sorted_told old home acts p k l at None = refl
sorted_told old home acts p k l at (Some q) = refl

sort_told : (old : Names_data) (home : ActsHome) (acts : List ActTree) (p : List ℕ) (k : ActKind) (l : List ℕ) (t : Sign) (at : ℕ)
    → let r : Reader_data = stand old (in_acts home (in_act acts (behind_paren p k l))) in
    in_message (role_named old p) k (feed_sort (label_there old home acts l) t at r.labels) r ≡ told old
    (option_map (in_acts home) (act_grows acts (behind_paren p k l) t)) None wanted.SortOrCloseParen at
sort_told old home acts p k l (plain w) at = sorted_told old home acts p k l at (sort_named w)
sort_told old home acts p k l close_paren at = ap good (acted_stands old home acts (act_tree p k l None))
sort_told old home acts p k l _ at = refl

close_told : (old : Names_data) (home : ActsHome) (acts : List ActTree) (p : List ℕ) (k : ActKind) (l : List ℕ) (q : Sort) (t : Sign) (at : ℕ)
    → let r : Reader_data = stand old (in_acts home (in_act acts (behind_sort p k l q))) in
    in_message (role_named old p) k (feed_close (label_there old home acts l) q t at r.labels) r ≡ told old
    (option_map (in_acts home) (act_grows acts (behind_sort p k l q) t)) None wanted.CloseParen at
close_told old home acts p k l q close_paren at = ap good (acted_stands old home acts (act_tree p k l (Some q)))
close_told old home acts p k l q _ at = refl

act_told : (old : Names_data) (home : ActsHome) (acts : List ActTree) (a : ActCut) (t : Sign) (at : ℕ)
    → let c : Cut = in_acts home (in_act acts a) in feed_at (stand old c).mode t at (stand old c) ≡ told old (grows c t) (fault_of old c t) (wanted_of c) at
act_told old home acts (behind_peer p) t at = mark_told old home acts p at (mark_kind t)
act_told old home acts (behind_mark p k) t at = labels_told old home acts p k at (word_text t)
act_told old home acts (behind_label p k l) t at = paren_told old home acts p k l t at
act_told old home acts (behind_paren p k l) t at = sort_told old home acts p k l t at
act_told old home acts (behind_sort p k l q) t at = close_told old home acts p k l q t at

acts_end_told : (old : Names_data) (home : ActsHome) (x : ActTree) (xs : List ActTree) (t : Sign) (at : ℕ)
    → let c : Cut = in_acts home (behind_act x xs) in feed_behind_acts (format_of_home home) t at (stand old c) ≡ told old (acts_end home (x ∷ xs) t) None (wanted_of c) at
acts_end_told old (of_node h ns s) x xs t at =
    at_if old (is_close_bracket t) (in_node One h ns (at_above s (x ∷ xs))) (stand old (in_node One h ns (at_above s (x ∷ xs)))) wanted.CommaOrCloseBracket at refl
acts_end_told old (of_list h) x xs t at =
    begin_told old (listed h (x ∷ xs)) wanted.CommaPendingOrNode at (λ m. feed_list_end m at (stand old (in_acts (of_list h) (behind_act x xs)))) refl
    (λ m. ap good (listed_stands old h (x ∷ xs) m)) t

acts_told : (old : Names_data) (home : ActsHome) (p : ActsCut) (t : Sign) (at : ℕ)
    → let c : Cut = in_acts home p in feed_at (stand old c).mode t at (stand old c) ≡ told old (grows c t) (fault_of old c t) (wanted_of c) at
acts_told old home (at_act acts) t at = peers_told old home acts at (is_close_bracket t) (plain_text t)
acts_told old home (in_act acts a) t at = act_told old home acts a t at
acts_told old home (behind_act x xs) t at =
    let c : Cut = in_acts home (behind_act x xs) in
    at_else old (is_comma t) (in_acts home (at_act (x ∷ xs))) (acts_end home (x ∷ xs) t) (stand old (in_acts home (at_act (x ∷ xs))))
    (feed_behind_acts (format_of_home home) t at (stand old c)) (wanted_of c) at refl (acts_end_told old home x xs t at)

above_told : (old : Names_data) (f : Format) (h : Head f) (ns : List (NodeTree f)) (s : ℕ) (p : PendingTree f) (at : ℕ) (o : Option ℕ)
    → feed_above o at (stand old (in_node f h ns (at_above s p))) ≡ told old (above_step f h ns s p o) None wanted.Number at
above_told old f h ns s p at None = refl
above_told old f h ns s p at (Some n) = refl

rank_told : (old : Names_data) (f : Format) (h : Head f) (ns : List (NodeTree f)) (s : ℕ) (p : PendingTree f) (a : ℕ) (at : ℕ) (o : Option ℕ)
    → feed_rank o at (stand old (in_node f h ns (at_rank s p a))) ≡ told old (rank_step f h ns s p a o) None wanted.Number at
rank_told old f h ns s p a at None = refl
rank_told old f h ns s p a at (Some n) = refl

-- the reader after a node, where its labels were read
abbrev node_there : Names_data → (f : Format) → Head f → List (NodeTree f) → NodeTree f → List ActTree → Reader_data
node_there old f h ns n acts = with_nodes old f h ns (labels_so f h ns acts) n

next_told : (old : Names_data) (f : Format) (h : Head f) (ns : List (NodeTree f)) (s : ℕ) (p : PendingTree f) (a r : ℕ) (next : List ℕ) (at : ℕ) (o : Option ℕ) (c : Bool)
    → feed_next o c at (stand old (in_node f h ns (at_next s p a r next))) ≡ told old (next_step f h ns s p a r next o c) None (next_wanted next) at
next_told old f h ns s p a r [] at (Some n) c = refl
next_told old f h ns s p a r (y ∷ ys) at (Some n) c = refl
next_told old f h ns s p a r next at None c =
    let n : NodeTree f = node_tree f s p a r next in
    let acts : List ActTree = node_acts f (at_next s p a r next) in
    at_if old (c && is_none_of next) (ended f h ns n) (node_there old f h ns n acts) (next_wanted next) at (ended_stands old f h ns n (labels_so f h ns acts) (labels_whole f h ns n))

node_told : (old : Names_data) (f : Format) (h : Head f) (ns : List (NodeTree f)) (p : NodeCut f) (t : Sign) (at : ℕ)
    → let c : Cut = in_node f h ns p in feed_at (stand old c).mode t at (stand old c) ≡ told old (grows c t) (fault_of old c t) (wanted_of c) at
node_told old f h ns at_number t at = number_told old f h ns at (is_close_brace t) (number_value t)
node_told old f h ns at_colon t at = at_if old (is_colon t) (in_node f h ns at_state) (stand old (in_node f h ns at_state)) wanted.Colon at refl
node_told old f h ns at_state t at = state_told old f h ns at (number_value t)
node_told old f h ns (at_pending s) t at = pending_told old f h ns s t at
node_told old f h ns (at_above s p) t at = above_told old f h ns s p at (number_value t)
node_told old f h ns (at_rank_word s p a) t at = at_if old (is_keyword (codes "rank") t) (in_node f h ns (at_rank s p a)) (stand old (in_node f h ns (at_rank s p a))) wanted.Rank at refl
node_told old f h ns (at_rank s p a) t at = rank_told old f h ns s p a at (number_value t)
node_told old f h ns (at_next_word s p a r) t at =
    at_if old (is_keyword (codes "next") t) (in_node f h ns (at_nexts s p a r)) (stand old (in_node f h ns (at_nexts s p a r))) wanted.Next at refl
node_told old f h ns (at_nexts s p a r) t at =
    at_if old (is_open_bracket t) (in_node f h ns (at_next s p a r [])) (stand old (in_node f h ns (at_next s p a r []))) wanted.OpenBracket at refl
node_told old f h ns (at_next s p a r next) t at = next_told old f h ns s p a r next at (number_value t) (is_close_bracket t)
node_told old f h ns (behind_next s p a r y ys) t at =
    let n : NodeTree f = node_tree f s p a r (y ∷ ys) in
    let acts : List ActTree = node_acts f (behind_next s p a r y ys) in
    at_either old (is_comma t) (is_close_bracket t) (in_node f h ns (at_next s p a r (y ∷ ys))) (ended f h ns n) (stand old (in_node f h ns (at_next s p a r (y ∷ ys))))
    (node_there old f h ns n acts) wanted.CommaOrCloseBracket at refl (ended_stands old f h ns n (labels_so f h ns acts) (labels_whole f h ns n))

-- what the reader makes of a token at a place
pub says : (old : Names_data) (c : Cut) (t : Sign) (at : ℕ) → feed_at (stand old c).mode t at (stand old c) ≡ told old (grows c t) (fault_of old c t) (wanted_of c) at
says old at_begin t at = at_if old (is_keyword (codes "derivation") t) at_role (stand old at_role) wanted.DerivationOrEnd at refl
says old at_role t at = own_told old at (plain_text t)
says old (behind_role x) t at =
    at_either old (is_keyword (codes "bound") t) (is_keyword (codes "format") t) (at_bound One x) (at_format_number x) (stand old (at_bound One x)) (stand old (at_format_number x))
    wanted.BoundOrFormat at refl refl
says old (at_format_number x) t at = format_told old x at (number_value t)
says old (behind_format x) t at = at_if old (is_keyword (codes "bound") t) (at_bound Two x) (stand old (at_bound Two x)) wanted.Bound at refl
says old (at_bound f x) t at = bound_told old f x at (number_value t)
says old (at_brace f x b) t at = brace_told old f x b (is_open_brace t) at
says old (at_lists x b) t at = lists_told old x b t at
says old (at_list_number h) t at = list_told old h at (number_value t)
says old (at_list_colon h) t at = at_if old (is_colon t) (in_acts (of_list h) (at_act [])) (stand old (in_acts (of_list h) (at_act []))) wanted.Colon at refl
says old (in_acts home c) t at = acts_told old home c t at
says old (in_node f h ns p) t at = node_told old f h ns p t at
says old (at_pending_number h ns s) t at = with_told old h ns s at (number_value t)
says old (at_above_word h ns s n) t at = at_if old (is_keyword (codes "above") t) (in_node Two h ns (at_above s n)) (stand old (in_node Two h ns (at_above s n))) wanted.Above at refl
says old (at_end d) t at = refl
