-- Public: what a machine does: the words of its acts, and words that differ in receives that come later.
use Rattle.std.specs.Prelude.{◌≡◌, ℕ, List, [], ◌∷◌, ◌++◌, Some, slice_get}
use Rattle.rs_model.specs.Data.{Machine_data}
use Rattle.rs_model.specs.declared.graph.Arm.{Arm}
use Rattle.rs_model.specs.declared.graph.Label.{Label}
use Rattle.rs_model.specs.declared.graph.Role.{Role}
use Rattle.rs_model.specs.declared.machines.Act.{Act}
use Rattle.rs_model.specs.declared.machines.Act.TheVariants as act
use Rattle.rs_model.specs.declared.machines.State.TheVariants as state
use Rattle.rs_model.specs.declared.values.Sort.{Sort}
use Rattle.rs_graph.specs.Lists.{Among}

-- the machine may make these acts, one after the other, from the one state to the other
pub data Walks (machine : Machine_data) : ℕ → List Act → ℕ → Type 0 where
  Stays : (s : ℕ) → Walks machine s [] s
  Sends : (s t : ℕ) (peer : Role) (arms : List Arm) (arm : Arm) (acts : List Act) → slice_get machine.states s ≡ Some (state.Puts peer arms) → Among arms arm
      → Walks machine arm.next acts t → Walks machine s (act.Puts peer arm.label arm.sort ∷ acts) t
  Receives : (s t : ℕ) (peer : Role) (arms : List Arm) (arm : Arm) (acts : List Act) → slice_get machine.states s ≡ Some (state.Takes peer arms) → Among arms arm
      → Walks machine arm.next acts t → Walks machine s (act.Takes peer arm.label arm.sort ∷ acts) t

-- the first word is the second, but that some sends come just before the receives that they followed
pub data SendsEarlier : List Act → List Act → Type 0 where
  Ends : SendsEarlier [] []
  Keeps : (a : Act) (early late : List Act) → SendsEarlier early late → SendsEarlier (a ∷ early) (a ∷ late)
  Swaps : (to from : Role) (sent got : Label) (sent_sort got_sort : Sort) (early late : List Act) → SendsEarlier early late
      → SendsEarlier (act.Puts to sent sent_sort ∷ act.Takes from got got_sort ∷ early) (act.Takes from got got_sort ∷ act.Puts to sent sent_sort ∷ late)

-- the sends of a word, in order
abbrev pub sends_of : List Act → List Act
sends_of [] = []
sends_of (act.Puts peer label sort ∷ acts) = act.Puts peer label sort ∷ sends_of acts
sends_of (act.Takes peer label sort ∷ acts) = sends_of acts

-- the receives of a word, in order
abbrev pub receives_of : List Act → List Act
receives_of [] = []
receives_of (act.Puts peer label sort ∷ acts) = receives_of acts
receives_of (act.Takes peer label sort ∷ acts) = act.Takes peer label sort ∷ receives_of acts

-- the machine ends at the state
abbrev pub IsEnd : Machine_data → ℕ → Type 0
IsEnd machine s = slice_get machine.states s ≡ Some state.Done

-- nothing, or one receive
abbrev pub MayReceive : List Act → Type 0
MayReceive [] = Unit {0}
MayReceive (act.Puts peer label sort ∷ acts) = ⊥
MayReceive (act.Takes peer label sort ∷ []) = Unit {0}
MayReceive (act.Takes peer label sort ∷ more ∷ acts) = ⊥

-- nothing, or one send
abbrev pub MaySend : List Act → Type 0
MaySend [] = Unit {0}
MaySend (act.Takes peer label sort ∷ acts) = ⊥
MaySend (act.Puts peer label sort ∷ []) = Unit {0}
MaySend (act.Puts peer label sort ∷ more ∷ acts) = ⊥

-- the machine makes, from the state, the acts that the other makes up to t, and at most one receive more, with sends that come no earlier; where the other ends at t, no act more, and both end
pub record SaysLater (machine : Machine_data) (from : ℕ) (other : Machine_data) (early : List Act) (t : ℕ) : Type 0 where
  pub rest : List Act
  pub late : List Act
  pub to : ℕ
  pub one_more : MayReceive rest
  pub earlier : SendsEarlier (early ++ rest) late
  pub walks : Walks machine from late to
  pub ends : IsEnd other t → (rest ≡ []) × IsEnd machine to

-- the machine makes, from the state, the acts that the other makes up to t, and at most one send more, with sends that come no later; where the other ends at t, no act more, and both end
pub record SaysEarlier (machine : Machine_data) (from : ℕ) (other : Machine_data) (late : List Act) (t : ℕ) : Type 0 where
  pub rest : List Act
  pub early : List Act
  pub to : ℕ
  pub one_more : MaySend rest
  pub earlier : SendsEarlier early (late ++ rest)
  pub walks : Walks machine from early to
  pub ends : IsEnd other t → (rest ≡ []) × IsEnd machine to
