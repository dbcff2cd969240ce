-- No role of a demo makes many acts.
use Rattle.std.proofs.Common.{◌≡◌, ◌≢◌, inl, inr, ℕ, zero, suc, ◌+◌, ◌*◌, ◌-◌, ◌<◌, ◌≤◌, Bool, true, false, nat_lt, nat_le, if◌then◌else◌, List, [], ◌∷◌, ◌++◌, map, length, Option, Some, None}
use Rattle.std.proofs.Common.{slice_get, refl, sym, ap, ◌∙◌, subst, arith, length-append, length-drop}
use Rattle.std.specs.List.{flat_map, range_with_len}
use Rattle.std.proofs.lemmas.Bool.{and_parts, leb-true}
use Rattle.std.proofs.lemmas.Bool.Decides.{eqb_tells}
use Rattle.std.proofs.lemmas.List.{length-map}
use Rattle.rs_model.proofs.Lists.{item_at}
use Rattle.rs_model.specs.Data.{Machine_data}
use Rattle.rs_model.specs.declared.graph.Arm.{Arm}
use Rattle.rs_model.specs.declared.graph.Label.{Label}
use Rattle.rs_model.specs.declared.graph.Role.{Role}
use Rattle.rs_model.specs.declared.limits.TheConstants.{MOST_BYTES}
use Rattle.rs_model.specs.declared.machines.State.TheVariants.{Puts, Takes}
use Rattle.rs_model.specs.declared.values.Sort.TheVariants as sort
use Rattle.rs_model.specs.declared.values.Value.{Value}
use Rattle.rs_model.specs.declared.demos.Demo.{Demo}
use Rattle.rs_model.specs.declared.demos.Demo.TheVariants as demo
use Rattle.rs_bodies.specs.declared.dialects.Mark.TheVariants as mark
use Rattle.rs_core.specs.Actors.{PlaysAction, PlaysSent, PlaysGot}
use Rattle.rs_core.specs.declared.messages.Message.{Message}
use Rattle.rs_core.specs.Histories.{Action, Sent, Got, History}
use Rattle.rs_core.specs.Plain.{Moment, Ending, Stopped, IsPlain}
use Rattle.rs_core.specs.Runs.{IsGiven, last_moment}
use Rattle.rs_core.proofs.Alike.{end_holds, sound_plain}
use Rattle.rs_core.proofs.Fifo.{sents, gots, fifo_start, fifo_story}
use Rattle.rs_core.proofs.Rounds.{Sound}
use Rattle.rs_core.proofs.Stories.{no_histories}
use Rattle.rs_demos.specs.Acting.{by_demo, behind_piece}
use Rattle.rs_demos.specs.Sessions.{Exchange, role, arm, machine, states_from, numbers_from, partner, demo_machines, ring_pairs, next_in_ring, previous_in_ring, butterfly_pair, butterfly_pairs}
use Rattle.rs_demos.specs.Sessions.{steps, double_kernel, double_source, double_sink, stream_source, stream_sink}
use Rattle.rs_demos.specs.Starts.{StartsWithActors, ring_member}
use Rattle.rs_demos.specs.declared.actors.DemoTalker.{DemoTalker}
use Rattle.rs_demos.specs.declared.actors.DemoTalker.TheVariants as actor
use Rattle.rs_demos.proofs.Feeding.{Plays, moved, zero_of, not_one, double_arms, kernel_arms, sink_arms, stream_arms, sink_machine, kernel_with}
use Rattle.rs_demos.proofs.Playing.{sent_at, got_at, no_got, no_sent, nowhere, over, only_arm, First, Second, one_of, sents_cons, gots_cons, gots_skip}
use Rattle.rs_demos.proofs.Ran.{there}
use Rattle.rs_demos.proofs.Straight.{states_next}

-- a moment of a run

-- each actor has played its history, and what was taken is the first part of what was sent
record Went (ms : List Machine_data) (given : ℕ → DemoTalker) (end : Moment DemoTalker) : Type 0 where
  plays : (p : ℕ) (m : Machine_data) → slice_get ms p ≡ Some m → (y : DemoTalker) × Plays m m.start (given p) (end.history p) (end.at.at p) y
  fifo : (a b : ℕ) → a ≢ b → gots a (end.history b) ++ end.at.queue a b ≡ sents b (end.history a)

went : (ms : List Machine_data) (given : ℕ → DemoTalker) (limit : ℕ) (end : Moment DemoTalker) → Sound by_demo ms given limit end → Went ms given end
went ms given limit end s = record {
  plays = λ p m e. (let g = s.going p m e in (g.before, g.plays));
  fifo = fifo_story ms s.told.first end.at s.told.events no_histories end.history s.told.story (fifo_start ms s.told.first s.told.starts);
}

-- the play of role p, from the actor with which it starts
played : (ms : List Machine_data) (given : ℕ → DemoTalker) (end : Moment DemoTalker) (p : ℕ) (m : Machine_data) (x : DemoTalker) → Went ms given end
    → slice_get ms p ≡ Some m → given p ≡ x → (y : DemoTalker) × Plays m m.start x (end.history p) (end.at.at p) y
played ms given end p m x w e s =
    let P : DemoTalker → Type 0 = λ z. (y : DemoTalker) × Plays m m.start z (end.history p) (end.at.at p) y in
    subst P s (w.plays p m e)

-- messages

-- no more is sent to a role than there are acts
few_sents : (q : ℕ) (h : History) → length (sents q h) ≤ length h
few_sents q [] = omega arith
few_sents q (Got r l v ∷ h) = let on = few_sents q h in omega (arith, on)
few_sents q (Sent r l v ∷ h) =
    let on = few_sents q h in
    elim (eqb_tells r.0 q) [
      | inl t ↦ rw t.0 (omega (arith, on))
      | inr t ↦ rw t.0 (omega (arith, on))
    ]

-- no more is taken than was sent
few_gots : (xs ys zs : List Message) → xs ++ ys ≡ zs → length xs ≤ length zs
few_gots xs ys zs e =
    let f : length xs + length ys ≡ length zs = sym (length-append xs ys) ∙ ap length e in
    omega (arith, f)

-- steps of a play

sent_next : (m : Machine_data) (s : ℕ) (x : DemoTalker) (a : Arm) (q r : Role) (l : Label) (v : Value) (t : ℕ) (y : DemoTalker)
    → slice_get m.states s ≡ Some (Puts q (a ∷ [])) → PlaysSent by_demo m s x r l v t y → a.next ≡ t
sent_next m s x a q r l v t y st p =
    let g = sent_at m s x (a ∷ []) q r l v t y st p in
    ap (λ (z : Arm). z.next) (only_arm a g.arm (by_demo.chooses x (a ∷ [])).0 g.picks) ∙ g.goes

got_next : (m : Machine_data) (s : ℕ) (x : DemoTalker) (a : Arm) (q r : Role) (l : Label) (v : Value) (t : ℕ) (y : DemoTalker)
    → slice_get m.states s ≡ Some (Takes q (a ∷ [])) → PlaysGot by_demo m s x r l v t y → a.next ≡ t
got_next m s x a q r l v t y st p =
    let g = got_at m s x (a ∷ []) q r l v t y st p in
    ap (λ (z : Arm). z.next) (only_arm a g.arm g.place g.follows) ∙ g.goes

at : (m : Machine_data) (s s' : ℕ) (x : DemoTalker) (h : History) (t : ℕ) (y : DemoTalker) → s ≡ s' → Plays m s' x h t y → Plays m s x h t y
at m s s' x h t y e p = moved m s s' x x h t y e refl p

-- bytes after a piece
fewer : (n : ℕ) (bytes : List ℕ) → length bytes ≤ 4096 * suc n → length (behind_piece bytes) ≤ 4096 * n
fewer n bytes h = let e = length-drop 4096 bytes in omega (arith, h, e)

-- the source of double buffering: what it does with so many pieces

abbrev source_acts : ℕ → ℕ → ℕ
source_acts zero n = 3 + 2 * n
source_acts (suc zero) n = 2 + 2 * n
source_acts (suc (suc zero)) n = 1
source_acts (suc (suc (suc s))) n = 0

abbrev source_sends : ℕ → ℕ → ℕ
source_sends zero n = 1 + n
source_sends (suc zero) n = 1 + n
source_sends (suc (suc s)) n = 0

abbrev IsBrief : ℕ → ℕ → History → Type 0
IsBrief s n h = (length h ≤ source_acts s n) × (length (sents 0 h) ≤ source_sends s n)

source : (h : History) (s n : ℕ) (bytes : List ℕ) (t : ℕ) (y : DemoTalker) → Plays double_source s (actor.Source bytes) h t y → length bytes ≤ 4096 * n → IsBrief s n h
source [] s n bytes t y p few = (omega arith, omega arith)
source (Sent r l v ∷ h) zero n bytes t y p few = absurd (no_sent double_source 0 (actor.Source bytes) (arm 0 sort.Unit 1 ∷ []) (role 0) r l v p.0 p.1 refl p.2)
source (Got r l v ∷ h) zero n bytes t y p few =
    let g = got_at double_source 0 (actor.Source bytes) (arm 0 sort.Unit 1 ∷ []) (role 0) r l v p.0 p.1 refl p.2 in
    let a = only_arm (arm 0 sort.Unit 1) g.arm g.place g.follows in
    let e : 1 ≡ p.0 = ap (λ (z : Arm). z.next) a ∙ g.goes in
    let on = source h (suc zero) n bytes t y (moved double_source 1 p.0 (actor.Source bytes) p.1 h t y e g.becomes p.3) few in
    let one = on.0 in
    let two = on.1 in
    (omega (arith, one), omega (arith, two))
source (Got r l v ∷ h) (suc zero) n bytes t y p few = absurd (no_got double_source 1 (actor.Source bytes) double_arms (role 0) r l v p.0 p.1 refl p.2)
source (Sent r l v ∷ h) (suc zero) n [] t y p few =
    let s = sent_at double_source 1 (actor.Source []) double_arms (role 0) r l v p.0 p.1 refl p.2 in
    let a : arm 2 sort.Unit 2 ≡ s.arm = cc (s.picks) in
    let e : 2 ≡ p.0 = ap (λ (z : Arm). z.next) a ∙ s.goes in
    let on = source h (suc (suc zero)) n [] t y (moved double_source 2 p.0 (actor.Source []) p.1 h t y e s.becomes p.3) few in
    let made : length (sents 0 (Sent r l v ∷ h)) ≡ suc (length (sents 0 h)) = ap length (sents_cons 0 r l v h (zero_of (role 0) r s.peer)) in
    let one = on.0 in
    let two = on.1 in
    (omega (arith, one), omega (arith, two, made))
source (Sent r l v ∷ h) (suc zero) zero (b ∷ bs) t y p few = absurd (omega (arith, few))
source (Sent r l v ∷ h) (suc zero) (suc n) (b ∷ bs) t y p few =
    let s = sent_at double_source 1 (actor.Source (b ∷ bs)) double_arms (role 0) r l v p.0 p.1 refl p.2 in
    let a : arm 1 sort.Octets 0 ≡ s.arm = cc (s.picks) in
    let e : 0 ≡ p.0 = ap (λ (z : Arm). z.next) a ∙ s.goes in
    let on = source h zero n (behind_piece (b ∷ bs)) t y (moved double_source 0 p.0 (actor.Source (behind_piece (b ∷ bs))) p.1 h t y e s.becomes p.3) (fewer n (b ∷ bs) few) in
    let made : length (sents 0 (Sent r l v ∷ h)) ≡ suc (length (sents 0 h)) = ap length (sents_cons 0 r l v h (zero_of (role 0) r s.peer)) in
    let one = on.0 in
    let two = on.1 in
    (omega (arith, one), omega (arith, two, made))
source (Sent r l v ∷ h) (suc (suc zero)) n bytes t y p few = absurd (no_sent double_source 2 (actor.Source bytes) (arm 0 sort.Unit 3 ∷ []) (role 0) r l v p.0 p.1 refl p.2)
source (Got r l v ∷ h) (suc (suc zero)) n bytes t y p few =
    let g = got_at double_source 2 (actor.Source bytes) (arm 0 sort.Unit 3 ∷ []) (role 0) r l v p.0 p.1 refl p.2 in
    let a = only_arm (arm 0 sort.Unit 3) g.arm g.place g.follows in
    let e : 3 ≡ p.0 = ap (λ (z : Arm). z.next) a ∙ g.goes in
    let on = source h (suc (suc (suc zero))) n bytes t y (moved double_source 3 p.0 (actor.Source bytes) p.1 h t y e g.becomes p.3) few in
    let one = on.0 in
    let two = on.1 in
    (omega (arith, one), omega (arith, two))
source (a ∷ h) (suc (suc (suc zero))) n bytes t y p few = absurd (over double_source 3 (actor.Source bytes) a p.0 p.1 refl p.2)
source (a ∷ h) (suc (suc (suc (suc s)))) n bytes t y p few = absurd (nowhere double_source (suc (suc (suc (suc s)))) (actor.Source bytes) a p.0 p.1 refl p.2)

-- the kernel: four acts for each message of the source, and a few

abbrev kernel_more : ℕ → ℕ
kernel_more zero = 3
kernel_more (suc zero) = 2
kernel_more (suc (suc zero)) = 1
kernel_more (suc (suc (suc zero))) = 0
kernel_more (suc (suc (suc (suc zero)))) = 3
kernel_more (suc (suc (suc (suc (suc zero))))) = 1
kernel_more (suc (suc (suc (suc (suc (suc s)))))) = 0

kernel : (h : History) (s : ℕ) (x : DemoTalker) (t : ℕ) (y : DemoTalker) → Plays double_kernel s x h t y → length h ≤ kernel_more s + 4 * length (gots 1 h)
kernel [] s x t y p = omega arith
kernel (Got r l v ∷ h) zero x t y p = absurd (no_got double_kernel 0 x (arm 0 sort.Unit 1 ∷ []) (role 1) r l v p.0 p.1 refl p.2)
kernel (Sent r l v ∷ h) zero x t y p =
    let e = sent_next double_kernel 0 x (arm 0 sort.Unit 1) (role 1) r l v p.0 p.1 refl p.2 in
    let on = kernel h (suc zero) p.1 t y (at double_kernel 1 p.0 p.1 h t y e p.3) in
    omega (arith, on)
kernel (Got r l v ∷ h) (suc zero) x t y p = absurd (no_got double_kernel 1 x (arm 0 sort.Unit 2 ∷ []) (role 1) r l v p.0 p.1 refl p.2)
kernel (Sent r l v ∷ h) (suc zero) x t y p =
    let e = sent_next double_kernel 1 x (arm 0 sort.Unit 2) (role 1) r l v p.0 p.1 refl p.2 in
    let on = kernel h (suc (suc zero)) p.1 t y (at double_kernel 2 p.0 p.1 h t y e p.3) in
    omega (arith, on)
kernel (Sent r l v ∷ h) (suc (suc zero)) x t y p = absurd (no_sent double_kernel 2 x (arm 0 sort.Unit 3 ∷ []) (role 2) r l v p.0 p.1 refl p.2)
kernel (Got r l v ∷ h) (suc (suc zero)) x t y p =
    let s = got_at double_kernel 2 x (arm 0 sort.Unit 3 ∷ []) (role 2) r l v p.0 p.1 refl p.2 in
    let e = got_next double_kernel 2 x (arm 0 sort.Unit 3) (role 2) r l v p.0 p.1 refl p.2 in
    let skip : length (gots 1 (Got r l v ∷ h)) ≡ length (gots 1 h) = ap length (gots_skip 1 r l v h (not_one r s.peer)) in
    let on = kernel h (suc (suc (suc zero))) p.1 t y (at double_kernel 3 p.0 p.1 h t y e p.3) in
    omega (arith, on, skip)
kernel (Sent r l v ∷ h) (suc (suc (suc zero))) x t y p = absurd (no_sent double_kernel 3 x kernel_arms (role 1) r l v p.0 p.1 refl p.2)
kernel (Got r l v ∷ h) (suc (suc (suc zero))) x t y p =
    let s = got_at double_kernel 3 x kernel_arms (role 1) r l v p.0 p.1 refl p.2 in
    let came : length (gots 1 (Got r l v ∷ h)) ≡ suc (length (gots 1 h)) = ap length (gots_cons 1 r l v h (zero_of (role 1) r s.peer)) in
    elim (one_of (arm 1 sort.Octets 4) (arm 2 sort.Unit 5) s.arm s.place s.follows) [
      | First a ↦ (let e : 4 ≡ p.0 = ap (λ (z : Arm). z.next) a ∙ s.goes in
          let on = kernel h (suc (suc (suc (suc zero)))) p.1 t y (at double_kernel 4 p.0 p.1 h t y e p.3) in
          omega (arith, on, came))
      | Second a ↦ (let e : 5 ≡ p.0 = ap (λ (z : Arm). z.next) a ∙ s.goes in
          let on = kernel h (suc (suc (suc (suc (suc zero))))) p.1 t y (at double_kernel 5 p.0 p.1 h t y e p.3) in
          omega (arith, on, came))
    ]
kernel (Got r l v ∷ h) (suc (suc (suc (suc zero)))) x t y p = absurd (no_got double_kernel 4 x (arm 1 sort.Octets 1 ∷ []) (role 2) r l v p.0 p.1 refl p.2)
kernel (Sent r l v ∷ h) (suc (suc (suc (suc zero)))) x t y p =
    let e = sent_next double_kernel 4 x (arm 1 sort.Octets 1) (role 2) r l v p.0 p.1 refl p.2 in
    let on = kernel h (suc zero) p.1 t y (at double_kernel 1 p.0 p.1 h t y e p.3) in
    omega (arith, on)
kernel (Got r l v ∷ h) (suc (suc (suc (suc (suc zero))))) x t y p = absurd (no_got double_kernel 5 x (arm 2 sort.Unit 6 ∷ []) (role 2) r l v p.0 p.1 refl p.2)
kernel (Sent r l v ∷ h) (suc (suc (suc (suc (suc zero))))) x t y p =
    let e = sent_next double_kernel 5 x (arm 2 sort.Unit 6) (role 2) r l v p.0 p.1 refl p.2 in
    let on = kernel h (suc (suc (suc (suc (suc (suc zero)))))) p.1 t y (at double_kernel 6 p.0 p.1 h t y e p.3) in
    omega (arith, on)
kernel (a ∷ h) (suc (suc (suc (suc (suc (suc zero)))))) x t y p = absurd (over double_kernel 6 x a p.0 p.1 refl p.2)
kernel (a ∷ h) (suc (suc (suc (suc (suc (suc (suc s))))))) x t y p = absurd (nowhere double_kernel (suc (suc (suc (suc (suc (suc (suc s))))))) x a p.0 p.1 refl p.2)

-- the sink of both: two acts for each message that comes, and one

abbrev sink_more : ℕ → ℕ
sink_more zero = 1
sink_more (suc s) = 0

sink : (h : History) (p s : ℕ) (x : DemoTalker) (t : ℕ) (y : DemoTalker) → Plays (sink_machine p) s x h t y → length h ≤ sink_more s + 2 * length (gots 0 h)
sink [] p s x t y pl = omega arith
sink (Got r l v ∷ h) p zero x t y pl = absurd (no_got (sink_machine p) 0 x (arm 0 sort.Unit 1 ∷ []) (role 0) r l v pl.0 pl.1 refl pl.2)
sink (Sent r l v ∷ h) p zero x t y pl =
    let e = sent_next (sink_machine p) 0 x (arm 0 sort.Unit 1) (role 0) r l v pl.0 pl.1 refl pl.2 in
    let on = sink h p (suc zero) pl.1 t y (at (sink_machine p) 1 pl.0 pl.1 h t y e pl.3) in
    omega (arith, on)
sink (Sent r l v ∷ h) p (suc zero) x t y pl = absurd (no_sent (sink_machine p) 1 x sink_arms (role 0) r l v pl.0 pl.1 refl pl.2)
sink (Got r l v ∷ h) p (suc zero) x t y pl =
    let s = got_at (sink_machine p) 1 x sink_arms (role 0) r l v pl.0 pl.1 refl pl.2 in
    let came : length (gots 0 (Got r l v ∷ h)) ≡ suc (length (gots 0 h)) = ap length (gots_cons 0 r l v h (zero_of (role 0) r s.peer)) in
    elim (one_of (arm 1 sort.Octets 0) (arm 2 sort.Unit 2) s.arm s.place s.follows) [
      | First a ↦ (let e : 0 ≡ pl.0 = ap (λ (z : Arm). z.next) a ∙ s.goes in
          let on = sink h p zero pl.1 t y (at (sink_machine p) 0 pl.0 pl.1 h t y e pl.3) in
          omega (arith, on, came))
      | Second a ↦ (let e : 2 ≡ pl.0 = ap (λ (z : Arm). z.next) a ∙ s.goes in
          let on = sink h p (suc (suc zero)) pl.1 t y (at (sink_machine p) 2 pl.0 pl.1 h t y e pl.3) in
          omega (arith, on, came))
    ]
sink (a ∷ h) p (suc (suc zero)) x t y pl = absurd (over (sink_machine p) 2 x a pl.0 pl.1 refl pl.2)
sink (a ∷ h) p (suc (suc (suc s))) x t y pl = absurd (nowhere (sink_machine p) (suc (suc (suc s))) x a pl.0 pl.1 refl pl.2)

-- the source of the stream

abbrev stream_acts : ℕ → ℕ → ℕ
stream_acts zero n = 4 + 2 * n
stream_acts (suc zero) n = 3 + 2 * n
stream_acts (suc (suc zero)) n = 2 + 2 * n
stream_acts (suc (suc (suc zero))) n = 1
stream_acts (suc (suc (suc (suc s)))) n = 0

stream : (h : History) (s n : ℕ) (bytes : List ℕ) (t : ℕ) (y : DemoTalker) → Plays stream_source s (actor.Source bytes) h t y → length bytes ≤ 4096 * n → length h ≤ stream_acts s n
stream [] s n bytes t y p few = omega arith
stream (Got r l v ∷ h) zero n bytes t y p few = absurd (no_got stream_source 0 (actor.Source bytes) (arm 1 sort.Octets 1 ∷ []) (role 1) r l v p.0 p.1 refl p.2)
stream (Sent r l v ∷ h) zero n [] t y p few =
    let s = sent_at stream_source 0 (actor.Source []) (arm 1 sort.Octets 1 ∷ []) (role 1) r l v p.0 p.1 refl p.2 in
    let a : arm 1 sort.Octets 1 ≡ s.arm = cc (s.picks) in
    let e : 1 ≡ p.0 = ap (λ (z : Arm). z.next) a ∙ s.goes in
    let on = stream h (suc zero) n [] t y (moved stream_source 1 p.0 (actor.Source []) p.1 h t y e s.becomes p.3) few in
    omega (arith, on)
stream (Sent r l v ∷ h) zero zero (b ∷ bs) t y p few = absurd (omega (arith, few))
stream (Sent r l v ∷ h) zero (suc n) (b ∷ bs) t y p few =
    let s = sent_at stream_source 0 (actor.Source (b ∷ bs)) (arm 1 sort.Octets 1 ∷ []) (role 1) r l v p.0 p.1 refl p.2 in
    let a : arm 1 sort.Octets 1 ≡ s.arm = cc (s.picks) in
    let e : 1 ≡ p.0 = ap (λ (z : Arm). z.next) a ∙ s.goes in
    let on = stream h (suc zero) n (behind_piece (b ∷ bs)) t y (moved stream_source 1 p.0 (actor.Source (behind_piece (b ∷ bs))) p.1 h t y e s.becomes p.3) (fewer n (b ∷ bs) few) in
    omega (arith, on)
stream (Sent r l v ∷ h) (suc zero) n bytes t y p few = absurd (no_sent stream_source 1 (actor.Source bytes) (arm 0 sort.Unit 2 ∷ []) (role 1) r l v p.0 p.1 refl p.2)
stream (Got r l v ∷ h) (suc zero) n bytes t y p few =
    let g = got_at stream_source 1 (actor.Source bytes) (arm 0 sort.Unit 2 ∷ []) (role 1) r l v p.0 p.1 refl p.2 in
    let a = only_arm (arm 0 sort.Unit 2) g.arm g.place g.follows in
    let e : 2 ≡ p.0 = ap (λ (z : Arm). z.next) a ∙ g.goes in
    let on = stream h (suc (suc zero)) n bytes t y (moved stream_source 2 p.0 (actor.Source bytes) p.1 h t y e g.becomes p.3) few in
    omega (arith, on)
stream (Got r l v ∷ h) (suc (suc zero)) n bytes t y p few = absurd (no_got stream_source 2 (actor.Source bytes) stream_arms (role 1) r l v p.0 p.1 refl p.2)
stream (Sent r l v ∷ h) (suc (suc zero)) n [] t y p few =
    let s = sent_at stream_source 2 (actor.Source []) stream_arms (role 1) r l v p.0 p.1 refl p.2 in
    let a : arm 2 sort.Unit 3 ≡ s.arm = cc (s.picks) in
    let e : 3 ≡ p.0 = ap (λ (z : Arm). z.next) a ∙ s.goes in
    let on = stream h (suc (suc (suc zero))) n [] t y (moved stream_source 3 p.0 (actor.Source []) p.1 h t y e s.becomes p.3) few in
    omega (arith, on)
stream (Sent r l v ∷ h) (suc (suc zero)) zero (b ∷ bs) t y p few = absurd (omega (arith, few))
stream (Sent r l v ∷ h) (suc (suc zero)) (suc n) (b ∷ bs) t y p few =
    let s = sent_at stream_source 2 (actor.Source (b ∷ bs)) stream_arms (role 1) r l v p.0 p.1 refl p.2 in
    let a : arm 1 sort.Octets 1 ≡ s.arm = cc (s.picks) in
    let e : 1 ≡ p.0 = ap (λ (z : Arm). z.next) a ∙ s.goes in
    let on = stream h (suc zero) n (behind_piece (b ∷ bs)) t y (moved stream_source 1 p.0 (actor.Source (behind_piece (b ∷ bs))) p.1 h t y e s.becomes p.3) (fewer n (b ∷ bs) few) in
    omega (arith, on)
stream (Sent r l v ∷ h) (suc (suc (suc zero))) n bytes t y p few = absurd (no_sent stream_source 3 (actor.Source bytes) (arm 0 sort.Unit 4 ∷ []) (role 1) r l v p.0 p.1 refl p.2)
stream (Got r l v ∷ h) (suc (suc (suc zero))) n bytes t y p few =
    let g = got_at stream_source 3 (actor.Source bytes) (arm 0 sort.Unit 4 ∷ []) (role 1) r l v p.0 p.1 refl p.2 in
    let a = only_arm (arm 0 sort.Unit 4) g.arm g.place g.follows in
    let e : 4 ≡ p.0 = ap (λ (z : Arm). z.next) a ∙ g.goes in
    let on = stream h (suc (suc (suc (suc zero)))) n bytes t y (moved stream_source 4 p.0 (actor.Source bytes) p.1 h t y e g.becomes p.3) few in
    omega (arith, on)
stream (a ∷ h) (suc (suc (suc (suc zero)))) n bytes t y p few = absurd (over stream_source 4 (actor.Source bytes) a p.0 p.1 refl p.2)
stream (a ∷ h) (suc (suc (suc (suc (suc s))))) n bytes t y p few = absurd (nowhere stream_source (suc (suc (suc (suc (suc s))))) (actor.Source bytes) a p.0 p.1 refl p.2)

-- straight machines: an act for each state at most

states_many : (xs : List Exchange) (s : ℕ) → length (states_from s xs) ≡ 1 + 2 * length xs
states_many [] s = refl
states_many (x ∷ xs) s = let on = states_many xs (suc (suc s)) in omega (arith, on)

act_next : (xs : List Exchange) (q s : ℕ) (x : DemoTalker) (a : Action) (t : ℕ) (y : DemoTalker) → PlaysAction by_demo (machine q (states_from 0 xs)) s x a t y
    → (s < length (states_from 0 xs)) × (suc s ≡ t)
act_next xs q s x (Sent r l v) t y p =
    let e = states_next xs 0 s mark.Puts r p.arms p.puts in
    let P : List Arm → Type 0 = λ z. slice_get (states_from 0 xs) s ≡ Some (Puts r z) in
    let n : suc (0 + s) ≡ t = sent_next (machine q (states_from 0 xs)) s x (arm 0 sort.Whole (suc (0 + s))) r r l v t y (subst P e p.puts) p in
    let plus : suc s ≡ suc (0 + s) = omega arith in
    (there (states_from 0 xs) s (Puts r p.arms) p.puts, plus ∙ n)
act_next xs q s x (Got r l v) t y p =
    let e = states_next xs 0 s mark.Takes r p.arms p.takes in
    let P : List Arm → Type 0 = λ z. slice_get (states_from 0 xs) s ≡ Some (Takes r z) in
    let n : suc (0 + s) ≡ t = got_next (machine q (states_from 0 xs)) s x (arm 0 sort.Whole (suc (0 + s))) r r l v t y (subst P e p.takes) p in
    let plus : suc s ≡ suc (0 + s) = omega arith in
    (there (states_from 0 xs) s (Takes r p.arms) p.takes, plus ∙ n)

straight : (h : History) (xs : List Exchange) (q s : ℕ) (x : DemoTalker) (t : ℕ) (y : DemoTalker) → Plays (machine q (states_from 0 xs)) s x h t y
    → length h ≤ length (states_from 0 xs) - s
straight [] xs q s x t y p = omega arith
straight (a ∷ h) xs q s x t y p =
    let n = act_next xs q s x a p.0 p.1 p.2 in
    let low = n.0 in
    let on : length h ≤ length (states_from 0 xs) - suc s = straight h xs q (suc s) p.1 t y (at (machine q (states_from 0 xs)) (suc s) p.0 p.1 h t y n.1 p.3) in
    omega (arith, low, on)

straight_acts : (h : History) (xs : List Exchange) (q : ℕ) (x : DemoTalker) (t : ℕ) (y : DemoTalker) → Plays (machine q (states_from 0 xs)) 0 x h t y
    → length h ≤ 1 + 2 * length xs
straight_acts h xs q x t y p =
    let one = straight h xs q 0 x t y p in
    let many = states_many xs 0 in
    omega (arith, one, many)

many_from : (n a : ℕ) → length (range_with_len a n) ≡ n
many_from zero a = refl
many_from (suc n) a = ap (λ (z : ℕ). suc z) (many_from n (a + 1))

ring_many : (n i : ℕ) → length (ring_pairs n i) ≡ n - 1
ring_many n i = length-map (numbers_from 1 (n - 1)) (λ (round : ℕ). (next_in_ring n i, previous_in_ring n i)) ∙ many_from (n - 1) 1

butterfly_one : (n i step : ℕ) → length (butterfly_pair n i step) ≤ 1
butterfly_one n i step = go (nat_lt step n)
  where
    go : (b : Bool) → length {A = Exchange} (if b then (partner step i, partner step i) ∷ [] else []) ≤ 1
    go true = omega arith
    go false = omega arith

butterfly_many : (ss : List ℕ) (n i : ℕ) → length (flat_map (λ (step : ℕ). butterfly_pair n i step) ss) ≤ length ss
butterfly_many [] n i = omega arith
butterfly_many (s ∷ ss) n i =
    let e = length-append (butterfly_pair n i s) (flat_map (λ (step : ℕ). butterfly_pair n i step) ss) in
    let one = butterfly_one n i s in
    let on = butterfly_many ss n i in
    omega (arith, e, one, on)

-- the machine of a role

made_by : (f : ℕ → Machine_data) (ns : List ℕ) (p : ℕ) (m : Machine_data) → slice_get (map f ns) p ≡ Some m → (i : ℕ) × (f i ≡ m)
made_by f [] p m e = absurd (cc (e))
made_by f (n ∷ ns) zero m e = (n, cc (e))
made_by f (n ∷ ns) (suc p) m e = made_by f ns p m e

-- the history of each role of straight machines
straight_role : (ms : List Machine_data) (given : ℕ → DemoTalker) (end : Moment DemoTalker) (pairs : ℕ → List Exchange) (ns : List ℕ) (most p : ℕ) → Went ms given end
    → ms ≡ map (λ (i : ℕ). machine i (states_from 0 (pairs i))) ns → ((i : ℕ) → length (pairs i) ≤ most) → p < length ms → length (end.history p) ≤ 1 + 2 * most
straight_role ms given end pairs ns most p w e few lt =
    let m = item_at ms p lt in
    let i = made_by (λ (i : ℕ). machine i (states_from 0 (pairs i))) ns p m.0 (ap (λ (z : List Machine_data). slice_get z p) (sym e) ∙ m.1) in
    let pl = w.plays p m.0 m.1 in
    let P : Machine_data → Type 0 = λ z. Plays z z.start (given p) (end.history p) (end.at.at p) pl.0 in
    let one = straight_acts (end.history p) (pairs i.0) i.0 (given p) (end.at.at p) pl.0 (subst P (sym i.1) pl.1) in
    let two = few i.0 in
    omega (arith, one, two)

ring_pairs_few : (n i : ℕ) → n ≤ 16 → length (ring_pairs n i) ≤ 16
ring_pairs_few n i few = let e = ring_many n i in omega (arith, e, few)

-- the demos

given_at : (given : ℕ → DemoTalker) (actors all : List DemoTalker) (p : ℕ) (x : DemoTalker) → actors ≡ all → IsGiven given actors → slice_get all p ≡ Some x → given p ≡ x
given_at given actors all p x e g s = g p x (ap (λ (z : List DemoTalker). slice_get z p) e ∙ s)

-- at a moment a role's history is short
abbrev IsShort : Moment DemoTalker → ℕ → Type 0
IsShort end p = length (end.history p) < 4096

double : (bytes : List ℕ) (actors : List DemoTalker) (given : ℕ → DemoTalker) (end : Moment DemoTalker) (p : ℕ) → length bytes ≤ MOST_BYTES → StartsWithActors demo.Double bytes actors
    → IsGiven given actors → Went (double_kernel ∷ double_source ∷ double_sink ∷ []) given end → p < 3 → IsShort end p
double bytes actors given end p few s g w lt = go p lt
  where
    source_short : IsBrief 0 256 (end.history 1)
    source_short =
        let pl = played (double_kernel ∷ double_source ∷ double_sink ∷ []) given end 1 double_source (actor.Source bytes) w refl
        (given_at given actors (kernel_with None ∷ actor.Source bytes ∷ actor.Sink [] ∷ []) 1 (actor.Source bytes) s g refl) in
        source (end.history 1) 0 256 bytes (end.at.at 1) pl.0 pl.1 (omega (arith, few))

    kernel_short : length (end.history 0) ≤ 1031
    kernel_short =
        let pl = w.plays 0 double_kernel refl in
        let one = kernel (end.history 0) 0 (given 0) (end.at.at 0) pl.0 pl.1 in
        let two = few_gots (gots 1 (end.history 0)) (end.at.queue 1 0) (sents 0 (end.history 1)) (w.fifo 1 0 (λ e. cc (e))) in
        let three = source_short.1 in
        omega (arith, one, two, three)

    sink_short : length (end.history 2) ≤ 2063
    sink_short =
        let pl = w.plays 2 double_sink refl in
        let one = sink (end.history 2) 2 0 (given 2) (end.at.at 2) pl.0 pl.1 in
        let two = few_gots (gots 0 (end.history 2)) (end.at.queue 0 2) (sents 2 (end.history 0)) (w.fifo 0 2 (λ e. cc (e))) in
        let three = few_sents 2 (end.history 0) in
        let four = kernel_short in
        omega (arith, one, two, three, four)

    go : (p : ℕ) → p < 3 → IsShort end p
    go zero lt = let h = kernel_short in omega (arith, h)
    go (suc zero) lt = let h = source_short.0 in omega (arith, h)
    go (suc (suc zero)) lt = let h = sink_short in omega (arith, h)
    go (suc (suc (suc p))) lt = absurd (omega (arith, lt))

streamed : (bytes : List ℕ) (actors : List DemoTalker) (given : ℕ → DemoTalker) (end : Moment DemoTalker) (p : ℕ) → length bytes ≤ MOST_BYTES → StartsWithActors demo.Stream bytes actors
    → IsGiven given actors → Went (stream_source ∷ stream_sink ∷ []) given end → p < 2 → IsShort end p
streamed bytes actors given end p few s g w lt = go p lt
  where
    source_short : length (end.history 0) ≤ 516
    source_short =
        let pl = played (stream_source ∷ stream_sink ∷ []) given end 0 stream_source (actor.Source bytes) w refl
        (given_at given actors (actor.Source bytes ∷ actor.Sink [] ∷ []) 0 (actor.Source bytes) s g refl) in
        stream (end.history 0) 0 256 bytes (end.at.at 0) pl.0 pl.1 (omega (arith, few))

    sink_short : length (end.history 1) ≤ 1033
    sink_short =
        let pl = w.plays 1 stream_sink refl in
        let one = sink (end.history 1) 1 0 (given 1) (end.at.at 1) pl.0 pl.1 in
        let two = few_gots (gots 0 (end.history 1)) (end.at.queue 0 1) (sents 1 (end.history 0)) (w.fifo 0 1 (λ e. cc (e))) in
        let three = few_sents 1 (end.history 0) in
        let four = source_short in
        omega (arith, one, two, three, four)

    go : (p : ℕ) → p < 2 → IsShort end p
    go zero lt = let h = source_short in omega (arith, h)
    go (suc zero) lt = let h = sink_short in omega (arith, h)
    go (suc (suc p)) lt = absurd (omega (arith, lt))

ring : (bytes : List ℕ) (actors : List DemoTalker) (given : ℕ → DemoTalker) (end : Moment DemoTalker) (p : ℕ) → StartsWithActors demo.Ring bytes actors
    → Went (demo_machines demo.Ring (length actors)) given end → p < length (demo_machines demo.Ring (length actors)) → IsShort end p
ring bytes actors given end p s w lt =
    let many : length actors ≡ length s.0 = ap length s.2 ∙ length-map s.0 ring_member in
    let high : length s.0 ≤ 16 = leb-true (length s.0) 16 (and_parts (nat_le 2 (length s.0)) (nat_le (length s.0) 16) s.1.0).1 in
    let h = straight_role (demo_machines demo.Ring (length actors)) given end (ring_pairs (length actors)) (numbers_from 0 (length actors)) 16 p w refl
    (λ i. ring_pairs_few (length actors) i (omega (arith, many, high))) lt in
    omega (arith, h)

butterfly : (n : ℕ) (given : ℕ → DemoTalker) (end : Moment DemoTalker) (p : ℕ) → Went (demo_machines demo.Butterfly n) given end → p < length (demo_machines demo.Butterfly n) → IsShort end p
butterfly n given end p w lt =
    let h = straight_role (demo_machines demo.Butterfly n) given end (butterfly_pairs n) (numbers_from 0 n) 4 p w refl (λ i. butterfly_many steps n i) lt in
    omega (arith, h)

short : (kind : Demo) (bytes : List ℕ) (actors : List DemoTalker) (given : ℕ → DemoTalker) (end : Moment DemoTalker) (p : ℕ) → length bytes ≤ MOST_BYTES → StartsWithActors kind bytes actors
    → IsGiven given actors → Went (demo_machines kind (length actors)) given end → p < length (demo_machines kind (length actors)) → IsShort end p
short demo.Double bytes actors given end p few s g w lt = double bytes actors given end p few s g w lt
short demo.Stream bytes actors given end p few s g w lt = streamed bytes actors given end p few s g w lt
short demo.Ring bytes actors given end p few s g w lt = ring bytes actors given end p s w lt
short demo.Butterfly bytes actors given end p few s g w lt = butterfly (length actors) given end p w lt

-- wherever a plain run ends, no role has made many acts
pub few_acts : (kind : Demo) (bytes : List ℕ) (actors : List DemoTalker) (given : ℕ → DemoTalker) (limit : ℕ) (capacity : Option ℕ) (end : Ending DemoTalker) (role : ℕ) → length bytes ≤ MOST_BYTES
    → StartsWithActors kind bytes actors → IsGiven given actors → IsPlain (demo_machines kind (length actors)) by_demo given limit capacity end
    → role < length (demo_machines kind (length actors)) → length ((last_moment end).history role) < 4096
few_acts kind bytes actors given limit capacity end role few s g is there =
    let machines : List Machine_data = demo_machines kind (length actors) in
    short kind bytes actors given (last_moment end) role few s g (went machines given limit (last_moment end) (sound_plain by_demo machines given limit capacity end is)) there

-- a role is stopped at a low limit alone
pub low_limit : (kind : Demo) (bytes : List ℕ) (actors : List DemoTalker) (given : ℕ → DemoTalker) (limit : ℕ) (capacity : Option ℕ) (role : ℕ) (end : Moment DemoTalker) → length bytes ≤ MOST_BYTES
    → StartsWithActors kind bytes actors → IsGiven given actors → IsPlain (demo_machines kind (length actors)) by_demo given limit capacity (Stopped role end) → limit < 4096
low_limit kind bytes actors given limit capacity role end few s g is =
    let stops = end_holds by_demo (demo_machines kind (length actors)) limit capacity is.first (Stopped role end) is.run in
    let acts = stops.1.acts in
    let fewer = few_acts kind bytes actors given limit capacity (Stopped role end) role few s g is stops.0 in
    omega (arith, acts, fewer)
