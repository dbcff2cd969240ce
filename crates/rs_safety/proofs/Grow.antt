-- A path that fits every role's walk, grown talk by talk.
use Rattle.std.proofs.Common.{◌≡◌, ◌≢◌, ◌⊎◌, inl, inr, ℕ, suc, ◌+◌, ◌<◌, ◌≤◌, List, [], ◌∷◌, ◌++◌, Option, Some, None, slice_get, length, refl, sym, ap, ap₂, ◌∙◌, subst, subst₂, arith, append-nil}
use Rattle.std.proofs.Common.{length-append}
use Rattle.std.proofs.lemmas.Option.{slice_get_within}
use Rattle.rs_model.specs.Data.{Machine_data, Protocol_data}
use Rattle.rs_model.specs.declared.graph.Arm.{Arm}
use Rattle.rs_model.specs.declared.graph.Label.{Label}
use Rattle.rs_model.specs.declared.graph.Node.TheVariants.{Talk}
use Rattle.rs_model.specs.declared.graph.Role.{Role}
use Rattle.rs_model.specs.declared.machines.State.{State}
use Rattle.rs_model.specs.declared.machines.State.TheVariants.{Done, Puts, Takes}
use Rattle.rs_model.specs.declared.values.Sort.{Sort}
use Rattle.rs_model.specs.Talks.{Talks}
use Rattle.rs_core.proofs.Items.{Item, Give, Get, Entry, sends, recvs, sends_append, recvs_append, Ordered}
use Rattle.rs_core.proofs.Parts.{StraightTalk, own, own_sender, own_receiver, own_other}
use Rattle.rs_core.proofs.Stands.{Trace}
use Rattle.rs_project.specs.Data.{Projection_data}
use Rattle.rs_project.specs.Graph.{LeadsTo, IsReached, Involves, PassesBy}
use Rattle.rs_project.specs.Projection.{IsProjection}
use Rattle.rs_safety.proofs.Kept.{place_of, Below, seen, Spaced, seen_snoc, spaced_snoc, each_more, Kept, ordered_push, below_push}
use Rattle.rs_safety.proofs.Members.{Among}
use Rattle.rs_safety.proofs.Trail.{canon, Fresh, AllBelow, pigeonhole}
use Rattle.rs_safety.proofs.Walks.{other_number, Round, round_one, round_more, involves_sender, involves_receiver, involves_neither}
use Rattle.rs_safety.proofs.Covers.{Covers, covers_next, covers_awaited, covers_put, covers_take}

-- what a walk has come to: the acts that it has passed, those done, those owed, and the state of the projection
abbrev pub Walk_fact : Type 1
Walk_fact = List Item → List Item → List Item → ℕ → Type 0

-- a send is passed: the follower picks an arm, and does or owes what it did and owed before, and the send, in an order
-- that is allowed
pub record Given (F : Walk_fact) (eaten done owed : List Item) (q : Role) (k : ℕ) (arms : List Arm) : Type 0 where
  pub index : ℕ
  pub arm : Arm
  pub done' : List Item
  pub owed' : List Item
  pub stands : slice_get arms index ≡ Some arm
  pub follows : F (eaten ++ (Give k q arm.label arm.sort ∷ [])) done' owed' arm.next
  pub kept : Kept ((done ++ owed) ++ (Give k q arm.label arm.sort ∷ [])) (done' ++ owed')

-- a receive is passed
pub record Taken (F : Walk_fact) (eaten done owed : List Item) (q : Role) (k : ℕ) (arm : Arm) : Type 0 where
  pub done' : List Item
  pub owed' : List Item
  pub follows : F (eaten ++ (Get k q arm.label arm.sort ∷ [])) done' owed' arm.next
  pub kept : Kept ((done ++ owed) ++ (Get k q arm.label arm.sort ∷ [])) (done' ++ owed')

-- all is done, and nothing is owed
pub record Finishes (F : Walk_fact) (m : Machine_data) (f : ℕ → ℕ) (eaten done owed : List Item) (t : ℕ) : Type 0 where
  pub done' : List Item
  pub last : ℕ
  pub follows : F eaten done' [] t
  pub trace : Trace m f m.start done' last
  pub stands : slice_get m.states last ≡ Some Done
  pub kept : Kept (done ++ owed) done'

-- how machine m follows its projection a, with the choices f, and never owes more than the bound
pub record Follower (m a : Machine_data) (f : ℕ → ℕ) (bound : ℕ) : Type 1 where
  pub F : Walk_fact
  pub start : F [] [] [] a.start
  pub gives : (eaten done owed : List Item) (t : ℕ) (q : Role) (k : ℕ) (arms : List Arm) → F eaten done owed t
      → slice_get a.states t ≡ Some (Puts q arms) → Given F eaten done owed q k arms
  pub takes : (eaten done owed : List Item) (t : ℕ) (q : Role) (k : ℕ) (arms : List Arm) (place : ℕ) (arm : Arm) → F eaten done owed t
      → slice_get a.states t ≡ Some (Takes q arms) → slice_get arms place ≡ Some arm → Taken F eaten done owed q k arm
  pub ends : (eaten done owed : List Item) (t : ℕ) → F eaten done owed t → slice_get a.states t ≡ Some Done
      → Finishes F m f eaten done owed t
  pub trace : (eaten done owed : List Item) (t : ℕ) → F eaten done owed t → (s : ℕ) × Trace m f m.start done s
  pub short : (eaten done owed : List Item) (t : ℕ) → F eaten done owed t → length owed ≤ bound

-- the nodes since the last talk of p, none twice
pub record Paced (pr : Protocol_data) (p : Role) (g n last : ℕ) : Type 0 where
  pub since : List ℕ
  pub fresh : Fresh since
  pub small : AllBelow (length pr.nodes) since
  pub rounds : (h : ℕ) → Among since h → Round pr p h g
  pub uninvolved : (h : ℕ) → Among since h → Involves pr p h → ⊥
  pub far : n ≡ last + length since

-- role p, where the path has come to node g: what it has done and owes, and the state of its projection, which covers g
pub record Seat (pr : Protocol_data) (p : Role) (pj : Projection_data) (F : Walk_fact) (trail : List StraightTalk) (g : ℕ) : Type 0 where
  pub done : List Item
  pub owed : List Item
  pub t : ℕ
  pub follows : F (canon p.0 trail) done owed t
  pub sent : (q : ℕ) → sends q (done ++ owed) ≡ sends q (canon p.0 trail)
  pub got : (q : ℕ) → recvs q (done ++ owed) ≡ recvs q (canon p.0 trail)
  pub order : Ordered (done ++ owed)
  pub below : Below (length trail) (done ++ owed)
  pub covers : Covers pr p pj.sets t g
  pub size : length (done ++ owed) ≡ length (canon p.0 trail)
  pub spaced : Spaced (length pr.nodes) 0 (canon p.0 trail)
  pub pace : (slice_get pj.machine.states t ≡ Some Done) ⊎ Paced pr p g (length trail) (seen 0 (canon p.0 trail))

abbrev pub said : Role → Role → Arm → StraightTalk
said x y to = record { sender = x; receiver = y; label = to.label; sort = to.sort }

-- the lines after one more item of p
sent_more : (p q : ℕ) (trail : List StraightTalk) (s : StraightTalk) (x : Item) (W W' : List Item) → Kept (W ++ (x ∷ [])) W'
    → own p (length trail) s ≡ x ∷ [] → sends q W ≡ sends q (canon p trail) → sends q W' ≡ sends q (canon p (s ∷ trail))
sent_more p q trail s x W W' kept own_is e =
    kept.sent q ∙ sends_append q W (x ∷ []) ∙ ap₂ (λ (u v : List Entry). u ++ v) e (ap (λ (z : List Item). sends q z) (sym own_is)) ∙ sym (sends_append q (canon p trail) (own p (length trail) s))

got_more : (p q : ℕ) (trail : List StraightTalk) (s : StraightTalk) (x : Item) (W W' : List Item) → Kept (W ++ (x ∷ [])) W'
    → own p (length trail) s ≡ x ∷ [] → recvs q W ≡ recvs q (canon p trail) → recvs q W' ≡ recvs q (canon p (s ∷ trail))
got_more p q trail s x W W' kept own_is e =
    kept.got q ∙ recvs_append q W (x ∷ []) ∙ ap₂ (λ (u v : List Entry). u ++ v) e (ap (λ (z : List Item). recvs q z) (sym own_is)) ∙ sym (recvs_append q (canon p trail) (own p (length trail) s))

-- since the last talk of p fewer nodes than there are: the talk itself is one more
pace_few : (pr : Protocol_data) (p : Role) (g n last : ℕ) → g < length pr.nodes → Involves pr p g → (pc : Paced pr p g n last)
    → suc (length pc.since) ≤ length pr.nodes
pace_few pr p g n last hg inv pc =
    let fresh : Fresh (g ∷ pc.since) = ((λ h. pc.uninvolved g h inv), pc.fresh) in
    pigeonhole (length pr.nodes) (g ∷ pc.since) fresh (hg, pc.small)

-- the pace begins anew at a talk of p
pace_anew : (pr : Protocol_data) (p : Role) (g' n last : ℕ) → last ≡ suc n → Paced pr p g' (suc n) last
pace_anew pr p g' n last e = record {
  since = [];
  fresh = tt;
  small = tt;
  rounds = λ h a. absurd a;
  uninvolved = λ h a. absurd a;
  far = omega arith;
}

-- the seat after one more item of p, from which the other facts follow
seat_after : (pr : Protocol_data) (p : Role) (pj : Projection_data) (F : Walk_fact) (trail : List StraightTalk) (g g' t' : ℕ) (s : StraightTalk) (x : Item) (done' owed' : List Item)
    → (seat : Seat pr p pj F trail g)
    → g < length pr.nodes → Involves pr p g → (slice_get pj.machine.states seat.t ≡ Some Done → ⊥)
    → place_of x ≡ length trail → own p.0 (length trail) s ≡ x ∷ []
    → Kept ((seat.done ++ seat.owed) ++ (x ∷ [])) (done' ++ owed')
    → F (canon p.0 trail ++ (x ∷ [])) done' owed' t' → Covers pr p pj.sets t' g' → Seat pr p pj F (s ∷ trail) g'
seat_after pr p pj F trail g g' t' s x done' owed' seat hg inv live at own_is kept follows covers =
    let pc : Paced pr p g (length trail) (seen 0 (canon p.0 trail)) = elim seat.pace [ inl e ↦ absurd (live e) | inr pc' ↦ pc' ] in
    let few = pace_few pr p g (length trail) (seen 0 (canon p.0 trail)) hg inv pc in
    let canon_is : canon p.0 (s ∷ trail) ≡ canon p.0 trail ++ (x ∷ []) = ap (λ (z : List Item). canon p.0 trail ++ z) own_is in
    let P : List Item → Type 0 = λ z. F z done' owed' t' in
    let Q : List Item → Type 0 = λ z. Spaced (length pr.nodes) 0 z in
    let last : seen 0 (canon p.0 (s ∷ trail)) ≡ suc (length trail) = ap (λ (z : List Item). seen 0 z) canon_is ∙ seen_snoc 0 (canon p.0 trail) x ∙ ap suc at in
    record {
      done = done';
      owed = owed';
      t = t';
      follows = subst P (sym canon_is) follows;
      sent = λ q. sent_more p.0 q trail s x (seat.done ++ seat.owed) (done' ++ owed') kept own_is (seat.sent q);
      got = λ q. got_more p.0 q trail s x (seat.done ++ seat.owed) (done' ++ owed') kept own_is (seat.got q);
      order = kept.order (ordered_push (seat.done ++ seat.owed) x (let R : ℕ → Type 0 = λ z. Below z (seat.done ++ seat.owed) in subst R (sym at) seat.below) seat.order);
      below = kept.below (suc (length trail)) (below_push (seat.done ++ seat.owed) x (length trail) at seat.below);
      covers = covers;
      size = (let e : length (done' ++ owed') ≡ length ((seat.done ++ seat.owed) ++ (x ∷ [])) = kept.size in
          let c : length (canon p.0 (s ∷ trail)) ≡ length (canon p.0 trail ++ (x ∷ [])) = ap length canon_is in
          let sz = seat.size in
          omega (arith, length-append (seat.done ++ seat.owed) (x ∷ []), length-append (canon p.0 trail) (x ∷ [])));
      spaced = (let far = pc.far in
          subst Q (sym canon_is) (spaced_snoc (length pr.nodes) 0 (canon p.0 trail) x seat.spaced (omega arith) (omega arith)));
      pace = inr (pace_anew pr p g' (length trail) (seen 0 (canon p.0 (s ∷ trail))) last);
    }

-- the sender's walk fixes the arm
pub record Gave (pr : Protocol_data) (p : Role) (pj : Projection_data) (F : Walk_fact) (trail : List StraightTalk) (y : Role) (theirs : List Arm) : Type 0 where
  pub arm : ℕ
  pub to : Arm
  pub stands : slice_get theirs arm ≡ Some to
  pub seat : Seat pr p pj F (said p y to ∷ trail) to.next

pub seat_give : (pr : Protocol_data) (p : Role) (pj : Projection_data) (m : Machine_data) (f : ℕ → ℕ) (bound : ℕ) (fl : Follower m pj.machine f bound) (trail : List StraightTalk) (g : ℕ) (y : Role)
    (theirs : List Arm)
    → IsProjection pr p pj → p ≢ y → Talks pr g p y theirs → Seat pr p pj fl.F trail g → Gave pr p pj fl.F trail y theirs
seat_give pr p pj m f bound fl trail g y theirs is ne ng seat =
    let at = covers_put pr p pj seat.t g y theirs is ne ng seat.covers in
    let gv = fl.gives (canon p.0 trail) seat.done seat.owed seat.t y (length trail) at.arms seat.follows at.stands in
    let e = at.each gv.index gv.arm gv.stands in
    let P : Label → Sort → Type 0 = λ l so. Kept ((seat.done ++ seat.owed) ++ (Give (length trail) y l so ∷ [])) (gv.done' ++ gv.owed') in
    let Q : Label → Sort → Type 0 = λ l so. fl.F (canon p.0 trail ++ (Give (length trail) y l so ∷ [])) gv.done' gv.owed' gv.arm.next in
    record {
      arm = e.0;
      to = e.1;
      stands = e.2;
      seat = seat_after pr p pj fl.F trail g e.1.next gv.arm.next (said p y e.1) (Give (length trail) y e.1.label e.1.sort) gv.done' gv.owed' seat
          (slice_get_within pr.nodes g (Talk p y theirs) ng) (involves_sender pr p g y theirs ng) (λ d. cc (d, at.stands)) refl (own_sender p.0 (length trail) (said p y e.1) refl)
          (subst₂ P (sym e.3) (sym e.4) gv.kept) (subst₂ Q (sym e.3) (sym e.4) gv.follows) e.5;
    }

pub seat_take : (pr : Protocol_data) (p : Role) (pj : Projection_data) (m : Machine_data) (f : ℕ → ℕ) (bound : ℕ) (fl : Follower m pj.machine f bound) (trail : List StraightTalk) (g : ℕ) (x : Role)
    (theirs : List Arm) (a : ℕ) (to : Arm)
    → IsProjection pr p pj → x ≢ p → Talks pr g x p theirs → slice_get theirs a ≡ Some to → Seat pr p pj fl.F trail g
    → Seat pr p pj fl.F (said x p to ∷ trail) to.next
seat_take pr p pj m f bound fl trail g x theirs a to is ne ng ha seat =
    let at = covers_take pr p pj seat.t g x theirs is ne ng seat.covers in
    let e = at.each a to ha in
    let tk = fl.takes (canon p.0 trail) seat.done seat.owed seat.t x (length trail) at.arms e.0 e.1 seat.follows at.stands e.2 in
    let P : Label → Sort → Type 0 = λ l so. Kept ((seat.done ++ seat.owed) ++ (Get (length trail) x l so ∷ [])) (tk.done' ++ tk.owed') in
    let Q : Label → Sort → Type 0 = λ l so. fl.F (canon p.0 trail ++ (Get (length trail) x l so ∷ [])) tk.done' tk.owed' e.1.next in
    seat_after pr p pj fl.F trail g to.next e.1.next (said x p to) (Get (length trail) x to.label to.sort) tk.done' tk.owed' seat
    (slice_get_within pr.nodes g (Talk x p theirs) ng) (involves_receiver pr p g x theirs ng) (λ d. cc (d, at.stands)) refl (own_receiver p.0 (length trail) (said x p to) (other_number x p ne) refl)
    (subst₂ P e.3 e.4 tk.kept) (subst₂ Q e.3 e.4 tk.follows) e.5

canon_same : (p : ℕ) (trail : List StraightTalk) (s : StraightTalk) → s.sender.0 ≢ p → s.receiver.0 ≢ p → canon p (s ∷ trail) ≡ canon p trail
canon_same p trail s nx ny = rw (own_other p (length trail) s nx ny, append-nil (canon p trail)) refl

-- one more node that passes by p
pace_on : (pr : Protocol_data) (p : Role) (g a g' n last : ℕ) → LeadsTo pr g a g' → PassesBy pr p g → (Round pr p g g → ⊥)
    → Paced pr p g n last → Paced pr p g' (suc n) last
pace_on pr p g a g' n last goes passes none pc = record {
  since = g ∷ pc.since;
  fresh = ((λ h. none (pc.rounds g h)), pc.fresh);
  small = (slice_get_within pr.nodes g (Talk goes.sender goes.receiver goes.arms) goes.talks, pc.small);
  rounds = λ h. elim [ inl e ↦ (let P : ℕ → Type 0 = λ z. Round pr p z g' in subst P e (round_one pr p g a g' passes goes)) | inr among ↦ round_more pr p h g a g' (pc.rounds h among) passes goes ];
  uninvolved = λ h. elim [ inl e ↦ (let P : ℕ → Type 0 = λ z. Involves pr p z → ⊥ in subst P e passes.uninvolved) | inr among ↦ pc.uninvolved h among ];
  far = (let h = pc.far in omega arith);
}

-- whether the state is Done
pub is_done : (o : Option State) → (o ≡ Some Done) ⊎ (o ≡ Some Done → ⊥)
is_done None = inr (λ e. cc (e))
is_done (Some Done) = inl refl
is_done (Some (Puts q arms)) = inr (λ e. cc (e))
is_done (Some (Takes q arms)) = inr (λ e. cc (e))

pace_other : (pr : Protocol_data) (p : Role) (pj : Projection_data) (t g a g' n last : ℕ) → IsProjection pr p pj → LeadsTo pr g a g'
    → (Involves pr p g → ⊥) → IsReached pr g → Covers pr p pj.sets t g
    → (slice_get pj.machine.states t ≡ Some Done) ⊎ Paced pr p g n last
    → (slice_get pj.machine.states t ≡ Some Done) ⊎ Paced pr p g' (suc n) last
pace_other pr p pj t g a g' n last is goes un reach cov pace = elim (is_done (slice_get pj.machine.states t)) [
  | inl d ↦ inl d
  | inr live ↦ elim pace [
    | inl d ↦ inl d
    | inr pc ↦ inr (pace_on pr p g a g' n last goes record { uninvolved = un; awaited = covers_awaited pr p pj t g is cov live }
        (λ r. is.none_unreached g record { reached = reach; steps = r.steps; some = r.some; cycle = r.path; around = r.around }) pc)
  ]
]

pub seat_other : (pr : Protocol_data) (p : Role) (pj : Projection_data) (F : Walk_fact) (trail : List StraightTalk) (g : ℕ) (x y : Role) (theirs : List Arm) (a : ℕ) (to : Arm)
    → IsProjection pr p pj → x ≢ p → y ≢ p → Talks pr g x y theirs → slice_get theirs a ≡ Some to → IsReached pr g → Seat pr p pj F trail g
    → Seat pr p pj F (said x y to ∷ trail) to.next
seat_other pr p pj F trail g x y theirs a to is nx ny ng ha reach seat =
    let un = involves_neither pr p g x y theirs ng nx ny in
    let goes : LeadsTo pr g a to.next = record { sender = x; receiver = y; arms = theirs; arm = to; talks = ng; stands = ha; leads = refl } in
    let same : canon p.0 (said x y to ∷ trail) ≡ canon p.0 trail = canon_same p.0 trail (said x y to) (other_number x p nx) (other_number y p ny) in
    record {
      done = seat.done;
      owed = seat.owed;
      t = seat.t;
      follows = (let P : List Item → Type 0 = λ z. F z seat.done seat.owed seat.t in subst P (sym same) seat.follows);
      sent = λ q. seat.sent q ∙ ap (λ (z : List Item). sends q z) (sym same);
      got = λ q. seat.got q ∙ ap (λ (z : List Item). recvs q z) (sym same);
      order = seat.order;
      below = each_more (λ z. place_of z < length trail) (λ z. place_of z < suc (length trail)) (seat.done ++ seat.owed) (λ z h. omega arith) seat.below;
      covers = covers_next pr p pj.sets seat.t g a to.next seat.covers un goes;
      size = seat.size ∙ ap length (sym same);
      spaced = (let P : List Item → Type 0 = λ z. Spaced (length pr.nodes) 0 z in subst P (sym same) seat.spaced);
      pace = (let P : List Item → Type 0 = λ z. (slice_get pj.machine.states seat.t ≡ Some Done) ⊎ Paced pr p to.next (suc (length trail)) (seen 0 z) in
          subst P (sym same) (pace_other pr p pj seat.t g a to.next (length trail) (seen 0 (canon p.0 trail)) is goes un reach seat.covers seat.pace));
    }
