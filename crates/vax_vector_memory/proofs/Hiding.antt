-- Pages that become absent one by one.
use Rattle.std.proofs.Common.{◌≡◌, ◌<◌, ℕ, ◌+◌, Bool, true, false, List, [], ◌∷◌, length, get_or, drop, refl, sym, ap, subst, ◌∙◌, inl, inr, if◌then◌else◌, ◌==◌, add-one}
use Rattle.std.proofs.Math.Path.{fun_ext}
use Rattle.std.proofs.Math.Seq.{drop-cons}
use Rattle.std.proofs.lemmas.Bool.{cases_Bool}
use Rattle.vax_flat.specs.Port.{View}
use Rattle.vax_undo.specs.Plain.{with_page}
use Rattle.vax_vectors.specs.declared.vector.Page.{Page}
use Rattle.vax_vector_memory.specs.Pages.{has_number}

-- one page less is resident
pub hidden_more : (pages : List Page) (i : ℕ) (d : Page) (v0 v1 : View) → i < length pages → ((page : ℕ) → v0.resident page ≡ true → has_number (drop i pages) page ≡ true)
    → v1 ≡ with_page v0 (get_or pages i d).number false → (page : ℕ) → v1.resident page ≡ true → has_number (drop (i + 1) pages) page ≡ true
unfolding has_number
hidden_more pages i d v0 v1 below left is page here =
    let e : drop i pages ≡ get_or pages i d ∷ drop (i + 1) pages = rw add-one (drop-cons pages i d below) in
    let now : (if page == (get_or pages i d).number then false else v0.resident page) ≡ true = sym (ap (λ (v : View). v.resident page) is) ∙ here in
    elim (cases_Bool (page == (get_or pages i d).number)) [
      | inl same ↦ let wrong : false ≡ true = rw same at now in absurd (cc)
      | inr other ↦
          let was : v0.resident page ≡ true = rw other at now in
          let all : has_number (get_or pages i d ∷ drop (i + 1) pages) page ≡ true = subst (λ (ps : List Page). has_number ps page ≡ true) e (left page was) in
          rw other at all
    ]

pub resident_alone : (first v0 v1 : View) (page : ℕ) (there : Bool) → v0 ≡ record first { resident = v0.resident } → v1 ≡ with_page v0 page there → v1 ≡ record first { resident = v1.resident }
resident_alone first v0 v1 page there same is =
    is ∙ (ap (λ (r : ℕ → Bool). record v0 { resident = r }) (sym (ap (λ (v : View). v.resident) is)) ∙ ap (λ (v : View). record v { resident = v1.resident }) same)

-- none is resident
pub none_resident : (first v : View) → v ≡ record first { resident = v.resident } → ((page : ℕ) → v.resident page ≡ true → has_number [] page ≡ true) → v ≡ record first { resident = λ page. false }
unfolding has_number
none_resident first v same left = same ∙ ap (λ (r : ℕ → Bool). record first { resident = r }) (fun_ext (λ page. by page (v.resident page) refl))
  where
    by : (page : ℕ) (b : Bool) → v.resident page ≡ b → v.resident page ≡ false
    by page true is = let wrong : false ≡ true = left page is in absurd (cc)
    by page false is = is
