-- The users of the next epoch.
use Rattle.std.proofs.Common.{◌≡◌, ◌∙◌, ◌||◌, ℕ, Bool, true, false, List, refl, sym, ap, subst}
use Rattle.std.specs.List.Sorted.{IsStrictlySortedBy}
use Rattle.kin_ids.specs.declared.ids.User.{User}
use Rattle.kin_ids.specs.Users.{has_user, user_cmp}
use Rattle.kin_ids.specs.Parts.{PartView}
use Rattle.kin_graph.specs.Deltas.{DeltaLists}
use Rattle.kin_graph.specs.Views.{AreVertices}
use Rattle.kin_changes.specs.Told.{are_told}
use Rattle.kin_changes.specs.Views.{AreLed}
use Rattle.kin_changes.proofs.Members.{vertices-law}
use Rattle.kin_rules.specs.declared.pull_rules.Side.{Side}
use Rattle.kin_rules.specs.Layers.{LayerRule, IsLayerRule}
use Rattle.kin_pull.specs.Begins.{IsBegun, is_touched, is_rewired}
use Rattle.kin_pull.specs.Engines.{Engine, LeadOn}
use Rattle.kin_pull.specs.States.{KeptView, On, IsQuiet}
use Rattle.kin_pull.proofs.Epochs.{begin-law}
use Rattle.kin_pull.proofs.Touched.{touched-law}

-- users together with those who stand in something new are the vertices of the next view
pub next-vertices : (was is : PartView) (ds : List DeltaLists) → AreLed was is ds → (us vs : List User) → AreVertices was us
    → IsStrictlySortedBy user_cmp vs → ((u : User) → has_user vs u ≡ (has_user us u || are_told ds u)) → AreVertices is vs
next-vertices was is ds led us vs are ascend all = record {
  ascend = ascend;
  all = λ u. all u
      ∙ (ap (λ (b : Bool). b || are_told ds u) (are.all u) ∙ sym ((vertices-law was is ds led).0 u));
}

-- where all of the latter are among the users, these stay
pub same-vertices : (us : List User) (ds : List DeltaLists) → ((u : User) → are_told ds u ≡ true → has_user us u ≡ true) → (u : User)
    → has_user us u ≡ (has_user us u || are_told ds u)
same-vertices us ds none u = here (has_user us u) refl (are_told ds u) refl
  where
    here : (a : Bool) → has_user us u ≡ a → (b : Bool) → are_told ds u ≡ b → a ≡ (a || b)
    here true e b f = refl
    here false e false f = refl
    here false e true f = sym e ∙ none u f

module _ (us vs : List User) (ds : List DeltaLists) (lead : LeadOn us ds) (ascend : IsStrictlySortedBy user_cmp vs) (all : (u : User)
    → has_user vs u ≡ (has_user us u || are_told ds u)) where
  vertices : AreVertices lead.is vs
  vertices = next-vertices lead.was lead.is ds lead.led us vs lead.vertices ascend all

  pub more-there : (u : User) → has_user us u ≡ true → has_user vs u ≡ true
  more-there u h = all u ∙ ap (λ (b : Bool). b || are_told ds u) h

  pub touched-there : (u : User) → is_touched ds u ≡ true → has_user vs u ≡ true
  touched-there u h = vertices.all u ∙ (touched-law lead.was lead.is ds lead.led u).0 h

  pub rewired-there : (s : Side) (u : User) → is_rewired s ds u ≡ true → has_user vs u ≡ true
  rewired-there s u h = vertices.all u ∙ (touched-law lead.was lead.is ds lead.led u).1 s h

-- an epoch that is begun stands on the next view
pub begins-on : {V : Type 0} (r : LayerRule V) → IsLayerRule r → (top : ℕ) (ds : List DeltaLists) (us vs : List User)
    (before after : KeptView V) → IsStrictlySortedBy user_cmp vs → ((u : User) → has_user vs u ≡ (has_user us u || are_told ds u))
    → IsBegun r ds us before vs after
    → (was is : PartView) → AreLed was is ds → AreVertices was us → AreVertices is vs × (On r top was us before → IsQuiet us before
    → On r top is vs after)
begins-on {V} r laws top ds us vs before after ascend all begun was is led are =
    let next = next-vertices was is ds led us vs are ascend all in
    (next, λ on quiet. begin-law V r top was is ds us before vs after laws led next on quiet begun)

-- the same of an engine
pub begun-engine : {R V : Type 0} (seen : R → LayerRule V) → ((q : R) → IsLayerRule (seen q))
    → (top : ℕ) (ds : List DeltaLists) (e inside : Engine R V) → inside ≡ e → (vs : List User) (after : KeptView V)
    → IsStrictlySortedBy user_cmp vs
    → ((u : User) → has_user vs u ≡ (has_user inside.users u || are_told ds u)) → (us ws : List User) → us ≡ inside.users → ws ≡ vs
    → IsBegun (seen inside.rule) ds us inside.kept ws after
    → (was is : PartView) → AreLed was is ds → AreVertices was e.users → AreVertices is vs × (On (seen e.rule) top was e.users e.kept
    → IsQuiet e.users e.kept → On (seen e.rule) top is vs after)
begun-engine {R} {V} seen laws top ds e inside same vs after ascend all us ws old new begun =
    subst (λ (x : Engine R V). (was is : PartView) → AreLed was is ds → AreVertices was x.users
    → AreVertices is vs × (On (seen x.rule) top was x.users x.kept → IsQuiet x.users x.kept → On (seen x.rule) top is vs after)) same
    (begins-on (seen inside.rule) (laws inside.rule) top ds inside.users vs inside.kept after ascend all
    (subst (λ (y : List User). IsBegun (seen inside.rule) ds inside.users inside.kept y after) new (subst (λ (y : List User). IsBegun
    (seen inside.rule) ds y inside.kept ws after) old begun)))

pub lead-inside : {R V : Type 0} (e inside : Engine R V) → inside ≡ e → (ds : List DeltaLists) → LeadOn e.users ds → LeadOn inside.users ds
lead-inside {R} {V} e inside same ds lead = subst (λ (x : Engine R V). LeadOn x.users ds) (sym same) lead

pub told-inside : (slice us : List User) → slice ≡ us → (vs : List User) (ds : List DeltaLists) → ((u : User)
    → has_user vs u ≡ (has_user slice u || are_told ds u)) → (u : User) → has_user vs u ≡ (has_user us u || are_told ds u)
told-inside slice us same vs ds all u = all u ∙ ap (λ (xs : List User). has_user xs u || are_told ds u) same

pub none-inside : (slice us : List User) → slice ≡ us → (ds : List DeltaLists) → ((u : User) → are_told ds u ≡ true
    → has_user slice u ≡ true) → (u : User) → has_user us u ≡ (has_user us u || are_told ds u)
none-inside slice us same ds none = same-vertices us ds (λ u h. ap (λ (xs : List User). has_user xs u) (sym same) ∙ none u h)
