-- Maps with names as keys, by the names' bytes.
use Rattle.std.proofs.Common.{◌≡◌, ℕ, List, [], Bool, true, false, cond, Option, Vec, refl, sym, ap, subst, ◌∙◌, ⊎_elim}
use Rattle.std.specs.Prelude.{Some, None, option_map}
use Rattle.std.specs.Global.{Global}
use Rattle.std.specs.Ordering.{is_eq, nat_cmp}
use Rattle.std.specs.Cmp.{eq_by_cmp_equiv}
use Rattle.std.specs.Cmp.Lexicographic.{slice_cmp, bytes_decides, nat_list_cmp_total, nat_list_eq_equiv}
use Rattle.std.specs.Str.{bytes_eq}
use Rattle.std.specs.BTreeMap.{BTreeMap}
use Rattle.std.specs.BTreeMap as tree
use Rattle.std.specs.Map.{lookup, IsKeyTest, AreApart, KeepsOthers}
use Rattle.std.proofs.lemmas.Map.Text.{is_eq-slice_cmp}
use Rattle.std.proofs.lemmas.Bool.{cases_Bool, cond-true, cond-false}
use Rattle.vax_macro.specs.Names.{with_entry}
use Rattle.std.specs.declared.rc.Rc.{Rc}
use Rattle.vax_macro.specs.TemplateViews.{by_name, template_view}
use Rattle.vax_macro.specs.View.{macros_of}
use Rattle.vax_macro.specs.declared.template_types.Template as code_template

apart : (bs cs ks : List ℕ) → bytes_eq bs cs ≡ false → bytes_eq bs ks ≡ true → bytes_eq cs ks ≡ false
apart bs cs ks n y = nat_list_eq_equiv.symm cs ks ∙ sym (nat_list_eq_equiv.congr bs ks cs y) ∙ n

apart_in_order : (bs cs ks : List ℕ) → bytes_eq bs cs ≡ false → is_eq (slice_cmp nat_cmp bs ks) ≡ true → is_eq (slice_cmp nat_cmp cs ks) ≡ false
apart_in_order bs cs ks n y = is_eq-slice_cmp cs ks ∙ apart bs cs ks n (sym (is_eq-slice_cmp bs ks) ∙ y)

other_entries : {K X : Type 0} (eq : K → K → Bool) (test : K → Bool) (old new : List (K × X)) → KeepsOthers eq test old new → (other : K → Bool) → IsKeyTest eq other → AreApart test other → lookup other new ≡ lookup other old
unfolding KeepsOthers
other_entries eq test old new h = h

by_bytes : {W : Type 0} (f g : List ℕ → W) (bs : List ℕ) (w : W) → g bs ≡ w → ((cs : List ℕ) → bytes_eq bs cs ≡ false → g cs ≡ f cs) → (cs : List ℕ) → g cs ≡ cond (bytes_eq bs cs) w (f cs)
by_bytes f g bs w here other cs =
    ⊎_elim
    (λ y. let P : List ℕ → Type 0 = λ l. g l ≡ w in subst P ((bytes_decides bs cs).0 y) here ∙ sym (cond-true (bytes_eq bs cs) w (f cs) y))
    (λ n. other cs n ∙ sym (cond-false (bytes_eq bs cs) w (f cs) n))
    (cases_Bool (bytes_eq bs cs))

same_function : {X : Type 0} (f g : List ℕ → X) → ((n : List ℕ) → f n ≡ g n) → f ≡ g
same_function f g h = λ i. λ n. h n i

-- what a change at a name leaves
pub name_updates : {X : Type 0} (bs : List ℕ) (m n : BTreeMap (Vec ℕ Global) X) (w : Option X)
    → tree.UpdatesBy (λ (x y : Vec ℕ Global). slice_cmp nat_cmp x.items y.items) (λ (k : Vec ℕ Global). slice_cmp nat_cmp bs k.items) m n w
    → by_name n ≡ with_entry bs w (by_name m)
name_updates bs m n w h = same_function _ _ (by_bytes (by_name m) (by_name n) bs w h.1
    (λ cs e. other_entries _ _ _ _ h.3 _ (λ x y. (eq_by_cmp_equiv nat_list_cmp_total).congr cs x.items y.items) (λ k. apart_in_order bs cs k.items e)))

-- a map of nothing
pub nothing_named : {X : Type 0} (m : BTreeMap (Vec ℕ Global) X) → m.entries ≡ [] → by_name m ≡ (λ name. None)
nothing_named m e = same_function _ _ (λ n. rw e refl)

-- the templates of macros, by names
of_entry : {X Y : Type 0} (f : X → Y) (t : Bool) (x : X) (o : Option X) → option_map f (cond t (Some x) o) ≡ cond t (Some (f x)) (option_map f o)
of_entry f true x o = refl
of_entry f false x o = refl

of_none : {X Y : Type 0} (f : X → Y) (t : Bool) (o : Option X) → option_map f (cond t None o) ≡ cond t None (option_map f o)
of_none f true o = refl
of_none f false o = refl

pub macro_updates : (bs : List ℕ) (m n : BTreeMap (Vec ℕ Global) (Rc code_template.Template Global)) (rc : Rc code_template.Template Global)
    → tree.UpdatesBy (λ (x y : Vec ℕ Global). slice_cmp nat_cmp x.items y.items) (λ (k : Vec ℕ Global). slice_cmp nat_cmp bs k.items) m n (Some rc)
    → macros_of n ≡ with_entry bs (Some (template_view rc.value)) (macros_of m)
macro_updates bs m n rc h = same_function _ _ (λ name.
    ap (λ (e : List ℕ → Option (Rc code_template.Template Global)). option_map (λ r. template_view r.value) (e name)) (name_updates bs m n (Some rc) h)
    ∙ of_entry (λ (r : Rc code_template.Template Global). template_view r.value) (bytes_eq bs name) rc (by_name m name))

pub macro_removed : (bs : List ℕ) (m n : BTreeMap (Vec ℕ Global) (Rc code_template.Template Global))
    → tree.UpdatesBy (λ (x y : Vec ℕ Global). slice_cmp nat_cmp x.items y.items) (λ (k : Vec ℕ Global). slice_cmp nat_cmp bs k.items) m n None
    → macros_of n ≡ with_entry bs None (macros_of m)
macro_removed bs m n h = same_function _ _ (λ name.
    ap (λ (e : List ℕ → Option (Rc code_template.Template Global)). option_map (λ r. template_view r.value) (e name)) (name_updates bs m n None h)
    ∙ of_none (λ (r : Rc code_template.Template Global). template_view r.value) (bytes_eq bs name) (by_name m name))

-- no macros
pub no_macros : (m : BTreeMap (Vec ℕ Global) (Rc code_template.Template Global)) → m.entries ≡ [] → macros_of m ≡ (λ name. None)
no_macros m e = same_function _ _ (λ n. rw e refl)

pub no_macro : (m : BTreeMap (Vec ℕ Global) (Rc code_template.Template Global)) (name : List ℕ) → m.entries ≡ [] → None ≡ macros_of m name
no_macro m name e = rw e refl
