-- What the tokens of a body lead the reader to, if it fits: its labels and acts more, in order of text.
use Rattle.std.proofs.Common.{◌≡◌, ℕ, suc, ◌+◌, ◌-◌, List, [], ◌∷◌, ◌++◌, length, drop, Bool, true, false, ◌&&◌, ◌||◌, if◌then◌else◌, nat_le, nat_lt, Option, Some, None, Ok, refl, sym, ap, ◌∙◌}
use Rattle.std.proofs.Common.{subst, append_assoc, append-nil, length-append, slice_get}
use Rattle.rs_model.specs.declared.graph.Role.{Role}
use Rattle.rs_text.specs.declared.faults.TextKind.TheVariants as kind
use Rattle.rs_bodies.specs.declared.dialects.Dialect.{Dialect}
use Rattle.rs_bodies.specs.declared.dialects.Dialect.TheVariants.{Talks, Acts}
use Rattle.rs_bodies.specs.declared.dialects.Head.{Head}
use Rattle.rs_bodies.specs.declared.dialects.Head.TheVariants as head
use Rattle.rs_bodies.specs.declared.dialects.Mark.{Mark}
use Rattle.rs_bodies.specs.declared.dialects.Mark.TheVariants as mark
use Rattle.rs_bodies.specs.declared.reading.Frame.{Frame}
use Rattle.rs_bodies.specs.declared.reading.Link.{Link}
use Rattle.rs_bodies.specs.declared.reading.Link.TheVariants as link
use Rattle.rs_bodies.specs.declared.reading.Mode.TheVariants as mode
use Rattle.rs_text.specs.declared.messages.MessagePlace.TheVariants as place
use Rattle.rs_bodies.specs.declared.drafts.DraftArm.{DraftArm}
use Rattle.rs_text.specs.Names.{place_of, is_among, names_with, BoundNames, nearest_binding, number_or}
use Rattle.rs_text.specs.Signs.{Sign, plain, arrow, bang, question, open_paren, close_paren, dot, comma, open_brace, close_brace}
use Rattle.rs_text.proofs.Naming.{among, not_among, grown_append}
use Rattle.rs_text.specs.Arms.{sort_signs, arm_signs, sort_or_unit}
use Rattle.rs_bodies.specs.Dialects.{BehindRole, sends_to, with_mark, most, turn_signs, lone_signs}
use Rattle.rs_bodies.specs.Data.{Reader_data, Draft_data}
use Rattle.rs_bodies.specs.Drafts.{with_arm}
use Rattle.rs_bodies.specs.Trees.{Body, ends, again, binds, acts, offers, Branches, one, more, body_signs, branch_signs, ends_by_name, ends_a_name}
use Rattle.rs_bodies.specs.Graph.{labels_of, labels_of_arms, acts_in, acts_in_arms, has_end, has_end_arms, Numbering, role_by_name, label_by_name}
use Rattle.rs_bodies.specs.Points.{head_of}
use Rattle.rs_bodies.specs.Scenes.{Scene, with_label, in_act, in_braces, in_rec, behind}
use Rattle.rs_bodies.specs.Fits.{is_guarded, has_room_for, body_fits, arms_fit, head_fits}
use Rattle.rs_bodies.specs.Feeding.{Fed, in_mode, reader_behind_link, start_behind_link, drafts_behind_link, feed_head_role, feed_new_head, feed_receiver_role, feed_bound_name, reader_at_head}
use Rattle.rs_bodies.specs.Feeding.{reader_in_braces, feeding}
use Rattle.rs_text.specs.Readings.{fault}
use Rattle.rs_text.proofs.Leading.{sign_behind, Tells, Exact, Hangs, hangs_both, tells_if, full, roomy, fits_in}
use Rattle.rs_bodies.proofs.FaultRuns.{by_name, acts_shape, offers_shape, placed_length, frame_at, restored_bound, lone_leads, linked_length}
use Rattle.rs_bodies.proofs.FaultPlaces.{scene_of}
use Rattle.rs_bodies.proofs.SpeltSteps.{target, arm_to, arms_to, draft, drafts_of, drafts_in, with_all, mid_arm, Stays, stays_before, numbered, arm_exact}
use Rattle.rs_text.proofs.Basics.{or_assoc, or_true, or_false}

-- as many acts as the tree has
mutual
  pub drafts_count : (dia : Dialect) (n : Numbering) (b : Body dia) (bound : BoundNames) (count : ℕ) → length (drafts_of dia n b bound count) ≡ acts_in dia b
  drafts_count dia n ends bound count = refl
  drafts_count dia n (again x) bound count = refl
  drafts_count dia n (binds x body) bound count = drafts_count dia n body ((x, count) ∷ bound) count
  drafts_count dia n (acts x y l s body) bound count = ap (λ z. suc z) (drafts_count dia n body bound (suc count))
  drafts_count dia n (offers x y arms) bound count = ap (λ z. suc z) (drafts_in_count dia n arms bound (suc count))

  pub drafts_in_count : (dia : Dialect) (n : Numbering) (arms : Branches dia) (bound : BoundNames) (count : ℕ) → length (drafts_in dia n arms bound count) ≡ acts_in_arms dia arms
  drafts_in_count dia n (one l s body) bound count = drafts_count dia n body bound count
  drafts_in_count dia n (more l s body arms) bound count =
      length-append (drafts_of dia n body bound count) _ ∙ ap (λ z. z + length (drafts_in dia n arms bound (count + acts_in dia body))) (drafts_count dia n body bound count)
      ∙ ap (λ z. acts_in dia body + z) (drafts_in_count dia n arms bound (count + acts_in dia body))

-- ---- steps

pub met_exact : (dia : Dialect) (found : Option ℕ) (x : List ℕ) (from : Link) (at : ℕ) (r : Reader_data) (N K : Type 0) (Q : Reader_data → Type 0) → place_of x r.roles ≡ found
    → Hangs (is_among x r.roles) N (Hangs (nat_lt (length r.drafts) (most dia)) N K)
    → (nat_lt (length r.drafts) (most dia) ≡ true → K → Q (record r { mode = mode.AtTurn from (record { 0 = number_or found }) })) → Tells (feed_head_role dia found from at r) N Q
met_exact dia None x from at r N K Q e h k = h.0 (not_among r.roles x 0 e)
met_exact dia (Some j) x from at r N K Q e h k =
    let room : Hangs (nat_lt (length r.drafts) (most dia)) N K = h.1 (among r.roles x 0 j e) in
    tells_if (nat_le (most dia) (length r.drafts)) kind.TooManyNodes at (in_mode (mode.AtTurn from (record { 0 = j })) r) N Q (λ f. room.0 (full (most dia) (length r.drafts) f))
    (λ f. k (fits_in (most dia) (length r.drafts) f) (room.1 (fits_in (most dia) (length r.drafts) f)))

headed_exact : (dia : Dialect) (from : Link) (q : Head) (at : ℕ) (r : Reader_data) (N : Type 0) (Q : Reader_data → Type 0) → nat_lt (length r.drafts) (most dia) ≡ true → Q (reader_at_head from q r)
    → Tells (feed_new_head dia from q at r) N Q
headed_exact dia from q at r N Q room h =
    tells_if (nat_le (most dia) (length r.drafts)) kind.TooManyNodes at (Ok (reader_at_head from q r)) N Q (λ f. absurd (roomy (most dia) (length r.drafts) room f)) (λ f. h)

received_exact : (found : Option ℕ) (y : List ℕ) (from : Link) (p : Role) (at : ℕ) (r : Reader_data) (N K : Type 0) (Q : Reader_data → Type 0) → place_of y r.roles ≡ found
    → nat_lt (length r.drafts) 1024 ≡ true → Hangs (is_among y r.roles) N K
    → (K → Q (reader_at_head from (head.Talk p (record { 0 = number_or found })) r)) → Tells (feed_receiver_role Talks found from p at r) N Q
received_exact None y from p at r N K Q e room h k = h.0 (not_among r.roles y 0 e)
received_exact (Some q) y from p at r N K Q e room h k = headed_exact Talks from (head.Talk p (record { 0 = q })) at r N Q room (k (h.1 (among r.roles y 0 q e)))

act_exact : (m : Mark) (x : List ℕ) (from : Link) (r : Reader_data) (p : Role) (ts : List Sign) (u : Sign) (N K : Type 0) (Q : Reader_data → Type 0)
    → Hangs (is_among x r.roles) N (Hangs (nat_lt (length r.drafts) 256) N K) → record { 0 = number_or (place_of x r.roles) } ≡ p
    → (K → Exact (feeding Acts) ts u N Q (reader_at_head from (head.Act p m) r)) → Exact (feeding Acts) (plain x ∷ (turn_signs Acts (with_mark m) ++ ts)) u N Q (record r { mode = mode.Body from })
act_exact mark.Puts x from r p ts u N K Q h e k = λ a f n. met_exact Acts (place_of x r.roles) x from a (record r { mode = mode.Body from }) N K (λ d. Exact (feeding Acts) (bang ∷ ts) u N Q d) refl h
    (λ room ht. subst (λ (z : Role). Exact (feeding Acts) (bang ∷ ts) u N Q (record r { mode = mode.AtTurn from z })) (sym e)
    (λ a f n. headed_exact Acts from (head.Act p mark.Puts) a (record r { mode = mode.AtTurn from p }) N (λ d. Exact (feeding Acts) ts u N Q d) room (k ht)))
act_exact mark.Takes x from r p ts u N K Q h e k =
    λ a f n. met_exact Acts (place_of x r.roles) x from a (record r { mode = mode.Body from }) N K (λ d. Exact (feeding Acts) (question ∷ ts) u N Q d) refl h
    (λ room ht. subst (λ (z : Role). Exact (feeding Acts) (question ∷ ts) u N Q (record r { mode = mode.AtTurn from z })) (sym e)
    (λ a f n. headed_exact Acts from (head.Act p mark.Takes) a (record r { mode = mode.AtTurn from p }) N (λ d. Exact (feeding Acts) ts u N Q d) room (k ht)))

-- a head is read as it is spelt
head_exact : (dia : Dialect) (t : BehindRole dia) (x : List ℕ) (from : Link) (r : Reader_data) (all : List (List ℕ)) (last : ℕ) (ts : List Sign) (u : Sign) (N K : Type 0) (Q : Reader_data → Type 0)
    → Hangs (head_fits dia x t (scene_of r)) N K
    → (K → Exact (feeding dia) ts u N Q (reader_at_head from (head_of dia (numbered r.roles all last) x t) r))
    → Exact (feeding dia) (plain x ∷ (turn_signs dia t ++ ts)) u N Q (record r { mode = mode.Body from })
head_exact Talks (sends_to y) x from r all last ts u N K Q h k =
    let A : Bool = is_among x r.roles in
    let B : Bool = nat_lt (length r.drafts) 1024 in
    let C : Bool = is_among y r.roles in
    let h1 : Hangs A N (Hangs B N (Hangs C N K)) = hangs_both A B N (Hangs C N K) (hangs_both (A && B) C N K h) in
    λ a f n. met_exact Talks (place_of x r.roles) x from a (record r { mode = mode.Body from }) N (Hangs C N K) (λ d. Exact (feeding Talks) (arrow ∷ plain y ∷ ts) u N Q d) refl h1
    (λ room hc. λ a f n. λ a f n. received_exact (place_of y r.roles) y from (role_by_name (numbered r.roles all last) x) a
    (record r { mode = mode.Receiver from (role_by_name (numbered r.roles all last) x) }) N K (λ d. Exact (feeding Talks) ts u N Q d) refl room hc k)
head_exact Acts (with_mark m) x from r all last ts u N K Q h k =
    let A : Bool = is_among x r.roles in
    let B : Bool = nat_lt (length r.drafts) 256 in
    act_exact m x from r (role_by_name (numbered r.roles all last) x) ts u N K Q (hangs_both A B N K h) refl k

guard_exact : (c : Bool) (k : ℕ) (from : Link) (at : ℕ) (r : Reader_data) (N : Type 0) (Q : Reader_data → Type 0) → Hangs c N (Q (record (reader_behind_link from (Some k) r) { mode = mode.Next }))
    → Tells (if c then in_mode mode.Next (reader_behind_link from (Some k) r) else fault kind.Unguarded at) N Q
guard_exact true k from at r N Q h = h.1 refl
guard_exact false k from at r N Q h = h.0 refl

named_exact : (found : Option ℕ) (from : Link) (at : ℕ) (r : Reader_data) (N : Type 0) (Q : Reader_data → Type 0)
    → Hangs (is_guarded found (length r.drafts)) N (Q (record (reader_behind_link from (Some (number_or found)) r) { mode = mode.Next })) → Tells (feed_bound_name found from at r) N Q
named_exact None from at r N Q h = h.0 refl
named_exact (Some k) from at r N Q h = guard_exact (nat_lt k (length r.drafts)) k from at r N Q h

-- ---- bodies

-- behind a body
abbrev pub Goes : (dia : Dialect) → Body dia → Link → Reader_data → List (List ℕ) → ℕ → (Reader_data → Type 0) → Type 0
Goes dia b from r all last P = (labels : List (List ℕ)) (drafts : List Draft_data) (start : Option ℕ) (ended : Bool) (bound inner : BoundNames) (depth : ℕ)
    → labels ≡ names_with r.labels (labels_of dia b)
    → drafts ≡ drafts_behind_link from (target dia b r.bound (length r.drafts)) r.drafts ++ drafts_of dia (numbered r.roles all last) b r.bound (length r.drafts)
    → start ≡ start_behind_link from (target dia b r.bound (length r.drafts)) r.start → ended ≡ (r.ended || has_end dia b) → bound ≡ inner ++ r.bound
    → P (record { roles = r.roles; labels = labels; role = r.role; drafts = drafts; start = start; ended = ended; bound = bound; depth = depth; frames = r.frames; mode = mode.Next })

-- behind the arms of the act d
abbrev pub GoesArms : (dia : Dialect) → Branches dia → ℕ → Reader_data → List Frame → List (List ℕ) → ℕ → List Draft_data → Draft_data → List Draft_data → (Reader_data → Type 0) → Type 0
GoesArms dia arms act r fs all last xs d ys P =
    (labels : List (List ℕ)) (drafts : List Draft_data) (start : Option ℕ) (ended : Bool) (bound inner : BoundNames) (depth : ℕ) → labels ≡ names_with r.labels (labels_of_arms dia arms)
    → drafts ≡ xs ++ with_all d (arms_to dia (numbered r.roles all last) arms r.bound (length r.drafts)) ∷ (ys ++ drafts_in dia (numbered r.roles all last) arms r.bound (length r.drafts))
    → start ≡ r.start → ended ≡ (r.ended || has_end_arms dia arms) → bound ≡ inner ++ r.bound
    → P (record {
      roles = r.roles;
      labels = labels;
      role = r.role;
      drafts = drafts;
      start = start;
      ended = ended;
      bound = bound;
      depth = depth;
      frames = frame_at act r.bound r.depth ∷ fs;
      mode = mode.Next;
    })

more_shape : (xs : List Draft_data) (d : Draft_data) (a : DraftArm) (on : List DraftArm) (ys p q : List Draft_data)
    → xs ++ with_all (with_all d (a ∷ [])) on ∷ ((ys ++ p) ++ q) ≡ xs ++ with_all d (a ∷ on) ∷ (ys ++ (p ++ q))
more_shape xs d a on ys p q = ap (λ z. xs ++ draft d.head z ∷ ((ys ++ p) ++ q)) (append_assoc d.arms (a ∷ []) on) ∙ ap (λ z. xs ++ with_all d (a ∷ on) ∷ z) (append_assoc ys p q)

abbrev scene : List (List ℕ) → BoundNames → ℕ → ℕ → List (List ℕ) → Scene
scene roles bound depth count labels = record { roles = roles; bound = bound; depth = depth; acts = count; labels = labels }

rehang : (a b : Bool) (N K L : Type 0) → a ≡ b → Hangs b N K → (K → L) → Hangs a N L
rehang a b N K L e h k = (λ f. h.0 (sym e ∙ f), λ f. k (h.1 (sym e ∙ f)))

mutual
  pub body_exact : (dia : Dialect) (b : Body dia) (from : Link) (r : Reader_data) (all : List (List ℕ)) (last : ℕ) (ts : List Sign) (u : Sign) (N : Type 0) (Q : Reader_data → Type 0)
      → (ends_by_name dia b ≡ true → ends_a_name dia (sign_behind ts u) ≡ true) → Stays (names_with r.labels (labels_of dia b)) all
      → Hangs (body_fits dia b (scene_of r)) N (Goes dia b from r all last (λ d. Exact (feeding dia) ts u N Q d))
      → Exact (feeding dia) (body_signs dia b ++ ts) u N Q (record r { mode = mode.Body from })
  body_exact dia ends from r all last ts u N Q settled stays h =
      λ at f n. h.1 refl r.labels (drafts_behind_link from None r.drafts) (start_behind_link from None r.start) true r.bound [] r.depth refl
      (sym (append-nil (drafts_behind_link from None r.drafts))) refl (or_true r.ended) refl
  body_exact dia (again name) from r all last ts u N Q settled stays h = λ at f n.
      subst (λ (x : Fed). Tells x N (λ d. Exact (feeding dia) ts u N Q d)) (sym (by_name dia (sign_behind ts u) from name at f (record r { mode = mode.Body from }) (settled refl)))
      (named_exact (nearest_binding name r.bound) from at (record r { mode = mode.Body from }) N (λ d. Exact (feeding dia) ts u N Q d) (
        h.0,
        λ g. h.1 g r.labels (drafts_behind_link from (Some (number_or (nearest_binding name r.bound))) r.drafts)
            (start_behind_link from (Some (number_or (nearest_binding name r.bound))) r.start) r.ended r.bound [] r.depth refl
            (sym (append-nil (drafts_behind_link from (Some (number_or (nearest_binding name r.bound))) r.drafts))) refl (or_false r.ended) refl,
      ))
  body_exact dia (binds name body) from r all last ts u N Q settled stays h = λ at f n.
      let both : Hangs (nat_lt r.depth 200) N (Hangs (body_fits dia body (in_rec name (scene_of r))) N (Goes dia (binds name body) from r all last (λ d. Exact (feeding dia) ts u N Q d)))
      = hangs_both (nat_lt r.depth 200) (body_fits dia body (in_rec name (scene_of r))) N (Goes dia (binds name body) from r all last (λ d. Exact (feeding dia) ts u N Q d)) h in
      tells_if (nat_le 200 r.depth) kind.TooDeep at (Ok (record r { depth = suc r.depth; mode = mode.RecName from })) N
      (λ d. Exact (feeding dia) (plain name ∷ dot ∷ (body_signs dia body ++ ts)) u N Q d) (λ e. both.0 (full 200 r.depth e))
      (λ e. λ a f n. λ a f n. body_exact dia body from (record r { depth = suc r.depth; bound = (name, length r.drafts) ∷ r.bound }) all last ts u N Q settled stays
      (rehang (body_fits dia body (in_rec name (scene_of r))) (body_fits dia body (in_rec name (scene_of r))) N (Goes dia (binds name body) from r all last (λ d. Exact (feeding dia) ts u N Q d))
      (Goes dia body from (record r { depth = suc r.depth; bound = (name, length r.drafts) ∷ r.bound }) all last (λ d. Exact (feeding dia) ts u N Q d)) refl (both.1 (fits_in 200 r.depth e))
      (λ k labels drafts start ended bound inner depth l d o x b. k labels drafts start ended bound (inner ++ (name, length r.drafts) ∷ []) depth l d o x
      (b ∙ sym (append_assoc inner ((name, length r.drafts) ∷ []) r.bound)))))
  body_exact dia (acts x y l s body) from r all last ts u N Q settled stays h =
      let c : ℕ = length r.drafts in
      let m : Numbering = numbered r.roles all last in
      let K : Type 0 = Goes dia (acts x y l s body) from r all last (λ d. Exact (feeding dia) ts u N Q d) in
      let A : Bool = head_fits dia x y (scene_of r) in
      let D : Bool = has_room_for l (scene_of r) in
      let E : Bool = body_fits dia body (with_label l (in_act (scene_of r))) in
      let h2 = hangs_both (A && D) E N K h in
      let h1 : Hangs A N (Hangs D N (Hangs E N K)) = hangs_both A D N (Hangs E N K) h2 in
      subst (λ (z : List Sign). Exact (feeding dia) z u N Q (record r { mode = mode.Body from })) (sym (acts_shape dia x y l s body ts))
      (head_exact dia y x from r all last (lone_signs dia ++ (arm_signs l s ++ (body_signs dia body ++ ts))) u N (Hangs D N (Hangs E N K)) Q h1
      (λ hd.
      let q : Head = head_of dia m x y in
      let p : Reader_data = reader_at_head from q r in
      let P : Reader_data → Type 0 = λ d. Exact (feeding dia) ts u N Q d in
      let L : List Draft_data = drafts_behind_link from (Some c) r.drafts in
      let pl : length p.drafts ≡ suc c = placed_length from q r in
      let S : ℕ → Scene = λ z. scene r.roles r.bound r.depth z (names_with r.labels (l ∷ [])) in
      let arm : DraftArm = arm_to m l s (target dia body r.bound (suc c)) in
      lone_leads dia (λ k. N) c l (open_paren ∷ ((sort_signs s ++ close_paren ∷ dot ∷ []) ++ (body_signs dia body ++ ts))) p u Q
      (arm_exact dia l s c p r.roles all last (body_signs dia body ++ ts) u N Q (stays_before (names_with r.labels (l ∷ [])) (labels_of dia body) all stays) (
        hd.0,
        λ e. body_exact dia body (link.OfArm c (label_by_name m l) (sort_or_unit s)) (record p { labels = names_with r.labels (l ∷ []) }) all last ts u N Q settled stays
            (rehang (body_fits dia body (S (length p.drafts))) (body_fits dia body (S (suc c))) N K
            (Goes dia body (link.OfArm c (label_by_name m l) (sort_or_unit s)) (record p { labels = names_with r.labels (l ∷ []) }) all last P) (ap (λ z. body_fits dia body (S z)) pl) (hd.1 e)
            (λ k labels drafts start ended bound inner depth g d o v b. k labels drafts start ended bound inner depth g
            (d ∙ ap (λ z. drafts_behind_link (link.OfArm c (label_by_name m l) (sort_or_unit s)) (target dia body r.bound z) p.drafts ++ drafts_of dia m body r.bound z) pl
            ∙ ap (λ z. z ++ drafts_of dia m body r.bound (suc c)) (mid_arm L (draft q []) [] arm c (linked_length from (Some c) r.drafts))
            ∙ append_assoc L (draft q (arm ∷ []) ∷ []) (drafts_of dia m body r.bound (suc c))) o v b)),
      ))))
  body_exact dia (offers x y arms) from r all last ts u N Q settled stays h =
      let c : ℕ = length r.drafts in
      let m : Numbering = numbered r.roles all last in
      let K : Type 0 = Goes dia (offers x y arms) from r all last (λ d. Exact (feeding dia) ts u N Q d) in
      let A : Bool = head_fits dia x y (scene_of r) in
      let D : Bool = nat_lt r.depth 200 in
      let E : Bool = arms_fit dia arms (in_braces (scene_of r)) in
      let h2 = hangs_both (A && D) E N K h in
      let h1 : Hangs A N (Hangs D N (Hangs E N K)) = hangs_both A D N (Hangs E N K) h2 in
      subst (λ (z : List Sign). Exact (feeding dia) z u N Q (record r { mode = mode.Body from })) (sym (offers_shape dia x y arms ts))
      (head_exact dia y x from r all last (open_brace ∷ (branch_signs dia arms ++ close_brace ∷ ts)) u N (Hangs D N (Hangs E N K)) Q h1
      (λ hd. λ a f n.
      let q : Head = head_of dia m x y in
      let p : Reader_data = reader_at_head from q r in
      let L : List Draft_data = drafts_behind_link from (Some c) r.drafts in
      let pl : length p.drafts ≡ suc c = placed_length from q r in
      let S : ℕ → Scene = λ z. scene r.roles r.bound (suc r.depth) z r.labels in
      let P : Reader_data → Type 0 = λ d. Exact (feeding dia) (close_brace ∷ ts) u N Q d in
      tells_if (nat_le 200 r.depth) kind.TooDeep a (Ok (reader_in_braces c p)) N (λ d. Exact (feeding dia) (branch_signs dia arms ++ close_brace ∷ ts) u N Q d) (λ e. hd.0 (full 200 r.depth e))
      (λ e. branches_exact dia arms c (record p { depth = suc r.depth }) r.frames all last (close_brace ∷ ts) u N Q refl stays L (draft q []) [] refl (linked_length from (Some c) r.drafts)
      (rehang (arms_fit dia arms (S (length p.drafts))) (arms_fit dia arms (S (suc c))) N K (GoesArms dia arms c (record p { depth = suc r.depth }) r.frames all last L (draft q []) [] P)
      (ap (λ z. arms_fit dia arms (S z)) pl) (hd.1 (fits_in 200 r.depth e))
      (λ k labels drafts start ended bound inner depth g d o v b. λ a f n.
      k labels drafts start ended (drop (length bound - length r.bound) bound) [] (suc r.depth) g
      (d ∙ ap (λ z. L ++ draft q (arms_to dia m arms r.bound z) ∷ drafts_in dia m arms r.bound z) pl) o v (restored_bound inner bound r.bound b))))))

  pub branches_exact : (dia : Dialect) (arms : Branches dia) (act : ℕ) (r : Reader_data) (fs : List Frame) (all : List (List ℕ)) (last : ℕ) (ts : List Sign) (u : Sign) (N : Type 0)
      (Q : Reader_data → Type 0) → ends_a_name dia (sign_behind ts u) ≡ true → Stays (names_with r.labels (labels_of_arms dia arms)) all
      → (xs : List Draft_data) (d : Draft_data) (ys : List Draft_data) → r.drafts ≡ xs ++ d ∷ ys → length xs ≡ act
      → Hangs (arms_fit dia arms (scene_of r)) N (GoesArms dia arms act r fs all last xs d ys (λ d. Exact (feeding dia) ts u N Q d))
      → Exact (feeding dia) (branch_signs dia arms ++ ts) u N Q (record r { frames = frame_at act r.bound r.depth ∷ fs; mode = mode.InMessage act place.Label })
  branches_exact dia (one l s body) act r fs all last ts u N Q settled stays xs d ys there here h =
      let m : Numbering = numbered r.roles all last in
      let o : Reader_data = record r { frames = frame_at act r.bound r.depth ∷ fs } in
      let P : Reader_data → Type 0 = λ d. Exact (feeding dia) ts u N Q d in
      let K : Type 0 = GoesArms dia (one l s body) act r fs all last xs d ys P in
      let both : Hangs (has_room_for l (scene_of r)) N (Hangs (body_fits dia body (with_label l (scene_of r))) N K)
      = hangs_both (has_room_for l (scene_of r)) (body_fits dia body (with_label l (scene_of r))) N K h in
      let arm : DraftArm = arm_to m l s (target dia body r.bound (length r.drafts)) in
      let new : List Draft_data = drafts_of dia m body r.bound (length r.drafts) in
      subst (λ (z : List Sign). Exact (feeding dia) z u N Q (record o { mode = mode.InMessage act place.Label })) (sym (append_assoc (arm_signs l s) (body_signs dia body) ts))
      (arm_exact dia l s act o r.roles all last (body_signs dia body ++ ts) u N Q (stays_before (names_with r.labels (l ∷ [])) (labels_of dia body) all stays) (
        both.0,
        λ e. body_exact dia body (link.OfArm act (label_by_name m l) (sort_or_unit s)) (record o { labels = names_with r.labels (l ∷ []) }) all last ts u N Q (λ _. settled) stays
            (rehang (body_fits dia body (with_label l (scene_of r))) (body_fits dia body (with_label l (scene_of r))) N K
            (Goes dia body (link.OfArm act (label_by_name m l) (sort_or_unit s)) (record o { labels = names_with r.labels (l ∷ []) }) all last P) refl (both.1 e)
            (λ k labels drafts start ended bound inner depth g w v z b. k labels drafts start ended bound inner depth g
            (w ∙ ap (λ q. with_arm arm (slice_get q act) q act ++ new) there ∙ ap (λ q. q ++ new) (mid_arm xs d ys arm act here) ∙ append_assoc xs (with_all d (arm ∷ []) ∷ ys) new) v z b)),
      ))
  branches_exact dia (more l s body arms) act r fs all last ts u N Q settled stays xs d ys there here h =
      let m : Numbering = numbered r.roles all last in
      let c : ℕ = length r.drafts in
      let o : Reader_data = record r { frames = frame_at act r.bound r.depth ∷ fs } in
      let from : Link = link.OfArm act (label_by_name m l) (sort_or_unit s) in
      let rest : List Sign = comma ∷ (branch_signs dia arms ++ ts) in
      let P : Reader_data → Type 0 = λ d. Exact (feeding dia) ts u N Q d in
      let R : Reader_data → Type 0 = λ d. Exact (feeding dia) rest u N Q d in
      let K : Type 0 = GoesArms dia (more l s body arms) act r fs all last xs d ys P in
      let A : Bool = has_room_for l (scene_of r) in
      let B : Bool = body_fits dia body (with_label l (scene_of r)) in
      let C : Bool = arms_fit dia arms (behind dia body (with_label l (scene_of r))) in
      let h2 = hangs_both (A && B) C N K h in
      let h1 : Hangs A N (Hangs B N (Hangs C N K)) = hangs_both A B N (Hangs C N K) h2 in
      let arm : DraftArm = arm_to m l s (target dia body r.bound c) in
      let new : List Draft_data = drafts_of dia m body r.bound c in
      let first : List (List ℕ) = names_with r.labels (l ∷ []) in
      let stays_on : Stays (names_with (names_with first (labels_of dia body)) (labels_of_arms dia arms)) all
      = subst (λ (z : List (List ℕ)). Stays z all) (grown_append (labels_of dia body) (labels_of_arms dia arms) first) stays in
      let shape : (arm_signs l s ++ (body_signs dia body ++ comma ∷ branch_signs dia arms)) ++ ts ≡ arm_signs l s ++ (body_signs dia body ++ rest) =
      append_assoc (arm_signs l s) (body_signs dia body ++ comma ∷ branch_signs dia arms) ts ∙ ap (λ z. arm_signs l s ++ z) (append_assoc (body_signs dia body) (comma ∷ branch_signs dia arms) ts) in
      subst (λ (z : List Sign). Exact (feeding dia) z u N Q (record o { mode = mode.InMessage act place.Label })) (sym shape)
      (arm_exact dia l s act o r.roles all last (body_signs dia body ++ rest) u N Q (stays_before first (labels_of dia body ++ labels_of_arms dia arms) all stays) (
        h1.0,
        λ e. body_exact dia body from (record o { labels = first }) all last rest u N Q (λ _. refl) (stays_before (names_with first (labels_of dia body)) (labels_of_arms dia arms) all stays_on)
            (rehang B B N (Hangs C N K) (Goes dia body from (record o { labels = first }) all last R) refl (h1.1 e)
            (λ hc labels drafts start ended bound inner depth g w v z b. λ a f n.
            let back : Reader_data = record r { labels = labels; drafts = drafts; start = start; ended = ended } in
            let mid : drafts ≡ xs ++ with_all d (arm ∷ []) ∷ (ys ++ new)
            = w ∙ ap (λ q. with_arm arm (slice_get q act) q act ++ new) there ∙ ap (λ q. q ++ new) (mid_arm xs d ys arm act here) ∙ append_assoc xs (with_all d (arm ∷ []) ∷ ys) new in
            let size : length drafts ≡ c + acts_in dia body
            = ap length w ∙ length-append (drafts_behind_link from (target dia body r.bound c) r.drafts) new ∙ ap (λ q. q + length new) (linked_length from (target dia body r.bound c) r.drafts)
            ∙ ap (λ q. c + q) (drafts_count dia m body r.bound c) in
            let S : ℕ → List (List ℕ) → Scene = λ q k. scene r.roles r.bound r.depth q k in
            subst (λ (q : BoundNames). Exact (feeding dia) (branch_signs dia arms ++ ts) u N Q
            (record back { bound = q; frames = frame_at act r.bound r.depth ∷ fs; mode = mode.InMessage act place.Label })) (sym (restored_bound inner bound r.bound b))
            (branches_exact dia arms act back fs all last ts u N Q settled (subst (λ (q : List (List ℕ)). Stays (names_with q (labels_of_arms dia arms)) all) (sym g) stays_on) xs
            (with_all d (arm ∷ [])) (ys ++ new) mid here
            (rehang (arms_fit dia arms (S (length drafts) labels)) C N K (GoesArms dia arms act back fs all last xs (with_all d (arm ∷ [])) (ys ++ new) P)
            (ap (λ q. arms_fit dia arms (S q labels)) size ∙ ap (λ q. arms_fit dia arms (S (c + acts_in dia body) q)) g) hc
            (λ k labels' drafts' start' ended' bound' inner' depth' g' w' v' z' b'. k labels' drafts' start' ended' bound' inner' depth'
            (g' ∙ ap (λ q. names_with q (labels_of_arms dia arms)) g ∙ sym (grown_append (labels_of dia body) (labels_of_arms dia arms) first))
            (w' ∙ ap (λ q. xs ++ with_all (with_all d (arm ∷ [])) (arms_to dia m arms r.bound q) ∷ ((ys ++ new) ++ drafts_in dia m arms r.bound q)) size
            ∙ more_shape xs d arm (arms_to dia m arms r.bound (c + acts_in dia body)) ys new (drafts_in dia m arms r.bound (c + acts_in dia body)))
            (v' ∙ v) (z' ∙ ap (λ q. q || has_end_arms dia arms) z ∙ or_assoc r.ended (has_end dia body) (has_end_arms dia arms)) b'))))),
      ))
