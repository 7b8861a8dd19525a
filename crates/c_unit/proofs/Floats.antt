-- The first float type.
use Rattle.std.proofs.Common.{◌≡◌, Bool, true, false, List, [], ◌∷◌, Option, Some, None, sym, ap, ◌∙◌}
use Rattle.std.specs.Prelude.{if◌then◌else◌}
use Rattle.qv_base.specs.declared.place.Place.{Place}
use Rattle.c_tok.specs.declared.token.CTok.{CTok}
use Rattle.c_decl.specs.Units.{first_float, float_at}

pub float_here : (ts rest more : List CTok) (t : CTok) (b : Bool) → first_float ts ≡ first_float rest → rest ≡ t ∷ more → b ≡ true
    → ((p : Place) (later : Option Place) → float_at t.kind p later ≡ (if b then Some p else later)) → Some t.place ≡ first_float ts
unfolding first_float
float_here ts rest more t b e is here tells =
    sym (e ∙ ap first_float is ∙ tells t.place (first_float more) ∙ ap (λ (z : Bool). if z then Some t.place else first_float more) here)

pub float_later : (ts rest more : List CTok) (t : CTok) (b : Bool) → first_float ts ≡ first_float rest → rest ≡ t ∷ more → b ≡ false
    → ((p : Place) (later : Option Place) → float_at t.kind p later ≡ (if b then Some p else later)) → first_float ts ≡ first_float more
unfolding first_float
float_later ts rest more t b e is here tells =
    e ∙ ap first_float is ∙ tells t.place (first_float more) ∙ ap (λ (z : Bool). if z then Some t.place else first_float more) here

pub float_none : (ts rest : List CTok) → first_float ts ≡ first_float rest → rest ≡ [] → None ≡ first_float ts
unfolding first_float
float_none ts rest e none = sym (e ∙ ap first_float none)
