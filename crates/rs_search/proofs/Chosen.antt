-- The move at which a node stays is the chosen one.
use Rattle.std.proofs.Common.{◌≡◌, inl, inr, ℕ, ◌<◌, ◌≤◌, Bool, true, List, [], ◌∷◌, ◌++◌, length, get_or, refl, sym, ap, ◌∙◌, subst, arith, suc, Some, Option, slice_get, map}
use Rattle.std.proofs.Common.{if◌then◌else◌, length-append}
use Rattle.std.proofs.lemmas.Option.{none-some, same_Some}
use Rattle.rs_model.specs.Data.{Machine_data}
use Rattle.rs_model.specs.declared.graph.Arm.{Arm}
use Rattle.rs_model.specs.declared.graph.Label.{Label}
use Rattle.rs_model.specs.declared.graph.Role.{Role}
use Rattle.rs_model.specs.declared.machines.Act.{Act}
use Rattle.rs_model.specs.declared.machines.Act.TheVariants as act
use Rattle.rs_model.specs.declared.machines.State.{State}
use Rattle.rs_model.specs.declared.machines.State.TheVariants.{Done, Puts, Takes}
use Rattle.rs_prefix.specs.Earliest.{without}
use Rattle.rs_derive.proofs.Mapped.{map_at, map_of}
use Rattle.rs_derive.proofs.Rows.{due_applies, ruled}
use Rattle.rs_derive.proofs.Ruled.{Row, Stopping, PayingSend, SendingBoth, Guessing, SendingAhead, PayingReceive, ReceivingAhead}
use Rattle.rs_derive.specs.Due.{Chosen, Due, both_at, due, due_by, nexts_by}
use Rattle.rs_derive.specs.Moves.{HasMove, Spot, arm_of, owing_send, spot}
use Rattle.rs_derive.specs.Rules.{arms_at, arms_of}
use Rattle.rs_derive.specs.declared.rules.Rule.{Rule}
use Rattle.rs_derive.specs.declared.rules.Rule.TheVariants.{Guesses}
use Rattle.rs_derive.specs.Within.{HasLabelsOnce}
use Rattle.rs_search.specs.Candidates.{start_spot}
use Rattle.rs_graph.specs.Discovery.{IsDiscovery}
use Rattle.rs_graph.specs.Graphs.{Graph_data, moves_of}
use Rattle.rs_graph.specs.Lists.{Among, ArePlacesOf, concat}
use Rattle.rs_graph.specs.Removal.{IsRemoval, at}
use Rattle.rs_graph.specs.Removal as removal
use Rattle.rs_search.specs.Survives.{IsChosen}
use Rattle.rs_search.specs.Turns.{Turn_data, nexts_within, turn_of, turn_with_cut, owes_more, no_turn}
use Rattle.rs_search.proofs.Choices.{moves_at, to_move, without_length, append_nil, bool_cases, both_level, chosen_among}
use Rattle.rs_graph.proofs.Growth.{in_at, at_within}
use Rattle.rs_graph.proofs.Kept.{Pictures, earlier_dies, names_at}
use Rattle.rs_search.proofs.Verdicts.{survives, to_stands}

-- a move to what passing one of the projection's sends leads to is a guess

longer : (p : Spot) (peer : Role) (b : Arm) → length (owing_send p peer b).pending ≡ suc (length p.pending)
longer p peer b = let k = length-append p.pending (act.Puts peer b.label b.sort ∷ []) in omega arith

not_longer : (p : Spot) (peer : Role) (b : Arm) (ds : List (List Spot)) → ((r : Spot) → Among (concat ds) r → length r.pending ≤ length p.pending) → Chosen ds (owing_send p peer b ∷ []) → ⊥
not_longer p peer b ds short c =
    let k = short (owing_send p peer b) (chosen_among ds (owing_send p peer b ∷ []) c (owing_send p peer b) (inl refl)) in
    let l = longer p peer b in let bad : ⊥ = omega arith in bad

paid_short : (p : Spot) (s place t : ℕ) (r : Spot) → Among (spot s (without p.pending place) t ∷ []) r → length r.pending ≤ length p.pending
paid_short p s place t r (inl e) = subst (λ (z : Spot). length z.pending ≤ length p.pending) e (without_length p.pending place)
paid_short p s place t r (inr h) = absurd h

both_short : (p : Spot) (theirs arms : List Arm) (r : Spot) → Among (concat (map (λ a. both_at p.pending a (arm_of theirs a.label)) arms)) r → length r.pending ≤ length p.pending
both_short p theirs arms r m = let k = both_level theirs p.pending arms r m in omega arith

-- what is due where one of the projection's arms is guessed
abbrev guess_of : Spot → Role → List Arm → Due
guess_of p peer theirs = due_by p [] theirs (Guesses peer)

guess_by : (p : Spot) (peer : Role) (theirs : List Arm) (b : Arm) (s : State) (t : Option State) (rule : Rule) → Row p.pending s t rule → t ≡ Some (Puts peer theirs)
    → Chosen (nexts_by p (arms_at s) (arms_of t) rule) (owing_send p peer b ∷ []) → due_by p (arms_at s) (arms_of t) rule ≡ guess_of p peer theirs
guess_by p peer theirs b _ _ _ (Stopping e) g c = absurd c
guess_by p peer theirs b _ _ _ (PayingSend q a place so t found at sv) g c =
    absurd (not_longer p peer b ((spot a.next (without p.pending place) p.above ∷ []) ∷ []) (paid_short p a.next place p.above) c)
guess_by p peer theirs b _ _ _ (SendingBoth q ours others none all) g c = absurd (not_longer p peer b (map (λ x. both_at p.pending x (arm_of others x.label)) ours) (both_short p others ours) c)
guess_by p peer theirs b _ _ _ (Guessing q r ours others none ne) g c = let same : Puts r others ≡ Puts peer theirs = same_Some (Puts r others) (Puts peer theirs) g in ap of same
  where
    of : State → Due
    of Done = guess_of p peer theirs
    of (Puts r others) = guess_of p r others
    of (Takes r others) = guess_of p peer theirs
guess_by p peer theirs b _ _ _ (SendingAhead q r ours others none) g c = absurd cc
guess_by p peer theirs b _ _ _ (PayingReceive q ours place l so a t found at arm sv) g c =
    absurd (not_longer p peer b ((spot a.next (without p.pending place) p.above ∷ []) ∷ []) (paid_short p a.next place p.above) c)
guess_by p peer theirs b _ _ _ (ReceivingAhead q r ours others none) g c = absurd cc

pub is_guess : (sub above : Machine_data) (p : Spot) (peer : Role) (arms : List Arm) (b : Arm) (makes : Option ℕ) (rs : List Spot) → slice_get above.states p.above ≡ Some (Puts peer arms)
    → rs ≡ owing_send p peer b ∷ []
    → HasMove sub above p makes rs → due sub above p ≡ Some (guess_of p peer arms)
is_guess sub above p peer arms b makes rs ab e m =
    let t = slice_get above.states p.above in
    let r = ruled sub above p makes rs m in
    due_applies p (slice_get sub.states p.state) t r.state r.rule r.stands r.row
    ∙ ap Some (guess_by p peer arms b r.state t r.rule r.row ab (subst (λ (z : List Spot). Chosen (nexts_by p (arms_at r.state) (arms_of t) r.rule) z) e r.picks))

moves_guess : (sub above : Machine_data) (bound : ℕ) (p : Spot) (peer : Role) (arms : List Arm) (c : ℕ) (rs : List Spot) → due sub above p ≡ Some (guess_of p peer arms)
    → slice_get (moves_at sub above bound p) c ≡ Some rs
    → moves_at sub above bound p ≡ map (λ (x : Spot). x ∷ []) (map (λ b. owing_send p peer b) arms)
moves_guess sub above bound p peer arms c rs d h =
    let u : Turn_data = turn_of (Some (guess_of p peer arms)) in
    let m : moves_at sub above bound p ≡ moves_of (turn_with_cut bound u).any (turn_with_cut bound u).spots
    = ap (λ (o : Option Due). moves_of (turn_with_cut bound (turn_of o)).any (turn_with_cut bound (turn_of o)).spots) d in
    m ∙ (elim (bool_cases (owes_more bound u.spots)) [
      | inl y ↦ (let h' : slice_get (moves_of (turn_with_cut bound u).any (turn_with_cut bound u).spots) c ≡ Some rs = subst (λ (z : List (List Spot)). slice_get z c ≡ Some rs) m h in
          let n : slice_get (moves_of (no_turn true).any (no_turn true).spots) c ≡ Some rs = subst
          (λ (b : Bool). slice_get (moves_of (if b then no_turn true else u).any (if b then no_turn true else u).spots) c ≡ Some rs) y h' in absurd (none-some rs n))
      | inr n ↦ subst (λ (b : Bool). moves_of (if b then no_turn true else u).any (if b then no_turn true else u).spots ≡ map
          (λ (x : Spot). x ∷ []) (map (λ b. owing_send p peer b) arms)) (sym n)
          (ap (map (λ (x : Spot). x ∷ [])) (append_nil (map (λ b. owing_send p peer b) arms)))
    ])

single_of : (f : Arm → Spot) (arms : List Arm) (c : ℕ) (rs : List Spot) → slice_get (map (λ (x : Spot). x ∷ []) (map f arms)) c ≡ Some rs → (b : Arm) × (slice_get arms c ≡ Some b) × (rs ≡ f b ∷ [])
single_of f arms c rs h = let k = map_of (λ (x : Spot). x ∷ []) (map f arms) c rs h in let b = map_of f arms c k.0 k.1 in (b.0, b.1, sym k.2 ∙ ap (λ (x : Spot). x ∷ []) (sym b.2))

single_to : (f : Arm → Spot) (arms : List Arm) (c : ℕ) (b : Arm) → slice_get arms c ≡ Some b → slice_get (map (λ (x : Spot). x ∷ []) (map f arms)) c ≡ Some (f b ∷ [])
single_to f arms c b h = map_at (λ (x : Spot). x ∷ []) (map f arms) c (f b) (map_at f arms c b h)

last_act : (xs : List Act) (a b : Act) → xs ++ (a ∷ []) ≡ xs ++ (b ∷ []) → a ≡ b
last_act [] a b e = cc
last_act (x ∷ xs) a b e = last_act xs a b cc

abbrev label_of : Act → Label
label_of (act.Puts r l s) = l
label_of (act.Takes r l s) = l

pub same_label : (p : Spot) (peer : Role) (a b : Arm) → (owing_send p peer a ∷ []) ≡ (owing_send p peer b ∷ []) → a.label ≡ b.label
same_label p peer a b e =
    let q : owing_send p peer a ≡ owing_send p peer b = cc in
    ap label_of (last_act p.pending (act.Puts peer a.label a.sort) (act.Puts peer b.label b.sort) (ap (λ (z : Spot). z.pending) q))

-- the results of the move at which a node stays are the chosen ones
pub chosen : (sub above : Machine_data) (bound : ℕ) (found : List Spot) (rows : List (List ℕ)) (g : Graph_data) (current order : List ℕ)
    → IsDiscovery (nexts_within sub above bound) (start_spot sub above) found rows
    → Pictures (moves_at sub above bound) found g.outs → IsRemoval g.outs current order
    → ((peer : Role) (arms : List Arm) (t : ℕ) → slice_get above.states t ≡ Some (Puts peer arms) → HasLabelsOnce arms)
    → (n : ℕ) (x : Spot) → slice_get found n ≡ Some x → at current n < removal.moves_at g.outs n
    → (rs : List Spot) × IsChosen sub above bound x rs × ArePlacesOf found (get_or (get_or g.outs n []) (at current n) []) rs
chosen sub above bound found rows g current order d pic rem once n x e lt =
    let k = pic.count n x e in
    let q = at_within (moves_at sub above bound x) (at current n) (omega arith) in
    let nm = pic.names n (at current n) x q.0 e q.1 in
    let mv = to_move sub above bound x q.0 (in_at (moves_at sub above bound x) (at current n) q.0 q.1) in (
      q.0,
      record {
        move = mv;
        survive = λ r h. (let a = names_at found (get_or (get_or g.outs n []) (at current n) []) q.0 nm r h in
            survives sub above bound found rows g current order d pic rem a.0 r a.1 (rem.stays n a.0 lt a.2));
        least = λ peer arms place earlier arm other ab ea re less eo sv. (
            let du = is_guess sub above x peer arms arm mv.makes q.0 ab re mv.move in
            let ms = moves_guess sub above bound x peer arms (at current n) q.0 du q.1 in
            let here = single_of (λ b. owing_send x peer b) arms (at current n) q.0 (subst (λ (z : List (List Spot)). slice_get z (at current n) ≡ Some q.0) ms q.1) in
            let same : place ≡ at current n = once peer arms x.above ab place (at current n) arm here.0 ea here.1 (same_label x peer arm here.0 (sym re ∙ here.2)) in
            let em : slice_get (moves_at sub above bound x) earlier ≡ Some (owing_send x peer other ∷ [])
            = subst (λ (z : List (List Spot)). slice_get z earlier ≡ Some (owing_send x peer other ∷ [])) (sym ms) (single_to (λ b. owing_send x peer b) arms earlier other eo) in
            let dead = earlier_dies (moves_at sub above bound) found g.outs current order pic rem n earlier x (owing_send x peer other ∷ []) e em (omega arith) in
            let is : owing_send x peer other ≡ dead.0 = only (owing_send x peer other) dead.0 dead.1 in
            dead.2 sv.set (to_stands sub above bound sv.set sv.stand) (subst (λ (z : Spot). Among sv.set z) is sv.among));
      },
      nm,
    )
  where
    only : (a b : Spot) → Among (a ∷ []) b → a ≡ b
    only a b (inl e') = e'
    only a b (inr h) = absurd h
