-- What a reader of terms has read, from what stands at its places.
use Rattle.std.proofs.Common.{◌≡◌, ◌≢◌, ℕ, ◌+◌, Bool, true, false, List, [], ◌∷◌, length, drop, Option, Some, None, Result, Ok, Err, refl, ap, arith, ◌∙◌, sym, inl, inr, ⊎_elim}
use Rattle.std.specs.Prelude.{slice_get, ◌⊎◌}
use Rattle.std.proofs.lemmas.List.{drop_all, length-drop}
use Rattle.std.specs.Int.{w64, cast_signed}
use Rattle.vax_dialect.specs.declared.Dialect.{Dialect}
use Rattle.vax_lex.specs.Characters.{canonical_name}
use Rattle.vax_lex.specs.Tokens.{token_text}
use Rattle.vax_lex.specs.Values.{Operation, characters_value, mask_bit, Sense, combined, minus_of, complement_of, named}
use Rattle.vax_lex.specs.Grammar.{Symbol, number, name, characters, mark, characters_in, symbol, symbol_of, symbols_of, is_that_mark, operator_in, operator_mark, names_then, term_then, joined_then, Term, constant, named_by, quoted, mask, single_mask, plus, minus, complement, bracketed, Joined, finish, joined, with_bit, mask_outcome, mask_value, single_mask_value, term_value, joined_value, Expression, spelling, value_of, Evaluates}
use Rattle.vax_lex.specs.Nesting.{SoFar}
use Rattle.vax_lex.specs.Reading.{NoTerm, ReadsTerm, NotOperator, ReadsExpression, ReadsNames, ReadsQuoted, ReadsMask, ReadsSingleMask}
use Rattle.vax_lex.specs.declared.expression.Read.{Read}
use Rattle.vax_lex.specs.declared.token.Token.{Token}
use Rattle.vax_lex.specs.declared.token.TokenKind.{TokenKind}
use Rattle.vax_lex.specs.declared.token.TokenKind.TheVariants.{Name, Number, Mark, Text}
use Rattle.vax_lex.specs.declared.value.Value.{Value}
use Rattle.vax_lex.specs.declared.value.Value.TheVariants.{Absolute}
use Rattle.vax_lex.specs.declared.value.ExprError.{ExprError}
use Rattle.vax_lex.specs.declared.value.ExprError.TheVariants.{Form}
use Rattle.vax_lex.proofs.Symbols.{Stands, length-symbols, token_stands, nothing_stands, mark_stands, no_mark, no_operator}
use Rattle.vax_lex.proofs.Unique.{first_code, second_code, letter_code, unique_term, unique_joined, bracket_ends}

-- What the first symbols of a term say of it.
some_symbol : (t : Term) (rest : List Symbol) → term_then t rest ≡ [] → ⊥
some_symbol (constant n) rest e = cc
some_symbol (named_by s) rest e = cc
some_symbol (quoted text) rest e = cc
some_symbol (mask names) rest e = cc
some_symbol (single_mask register) rest e = cc
some_symbol (plus t) rest e = cc
some_symbol (minus t) rest e = cc
some_symbol (complement t) rest e = cc
some_symbol (bracketed t more) rest e = cc

plus_only : (t : Term) (rest symbols : List Symbol) → term_then t rest ≡ mark 43 ∷ symbols → NoTerm symbols → ⊥
plus_only (plus t) rest symbols e h = h t rest cc
plus_only _ rest symbols e h = absurd (omega (arith, ap first_code e))

minus_only : (t : Term) (rest symbols : List Symbol) → term_then t rest ≡ mark 45 ∷ symbols → NoTerm symbols → ⊥
minus_only (minus t) rest symbols e h = h t rest cc
minus_only _ rest symbols e h = absurd (omega (arith, ap first_code e))

complement_only : (t : Term) (rest symbols : List Symbol) → term_then t rest ≡ mark 94 ∷ name (67 ∷ []) ∷ symbols → NoTerm symbols → ⊥
complement_only (complement t) rest symbols e h = h t rest cc
complement_only _ rest symbols e h = absurd (omega (arith, ap first_code e, ap letter_code e))

quoted_only : (t : Term) (rest symbols : List Symbol) → term_then t rest ≡ mark 94 ∷ name (65 ∷ []) ∷ symbols
    → ((text : List ℕ) (more : List Symbol) → characters text ∷ more ≡ symbols → ⊥) → ⊥
quoted_only (quoted text) rest symbols e h = h text rest cc
quoted_only _ rest symbols e h = absurd (omega (arith, ap first_code e, ap letter_code e))

mask_only : (t : Term) (rest symbols : List Symbol) → term_then t rest ≡ mark 94 ∷ name (77 ∷ []) ∷ symbols
    → ((names : List (List ℕ)) (more : List Symbol) → mark 60 ∷ names_then names (mark 62 ∷ more) ≡ symbols → ⊥)
    → ((register : List ℕ) (more : List Symbol) → name register ∷ more ≡ symbols → ⊥) → ⊥
mask_only (mask names) rest symbols e h i = h names rest cc
mask_only (single_mask register) rest symbols e h i = i register rest cc
mask_only _ rest symbols e h i = absurd (omega (arith, ap first_code e, ap letter_code e))

-- behind a `^` stands one of three letters
caret_only : (t : Term) (rest symbols : List Symbol) → term_then t rest ≡ mark 94 ∷ symbols
    → ((s : List ℕ) (more : List Symbol) → (symbols ≡ name s ∷ more) × ((s ≡ 67 ∷ []) ⊎ ((s ≡ 65 ∷ []) ⊎ (s ≡ 77 ∷ []))) → ⊥) → ⊥
caret_only (quoted text) rest symbols e h = h (65 ∷ []) (characters text ∷ rest) (cc, inr (inl refl))
caret_only (mask names) rest symbols e h = h (77 ∷ []) (mark 60 ∷ names_then names (mark 62 ∷ rest)) (cc, inr (inr refl))
caret_only (single_mask register) rest symbols e h = h (77 ∷ []) (name register ∷ rest) (cc, inr (inr refl))
caret_only (complement t) rest symbols e h = h (67 ∷ []) (term_then t rest) (cc, inl refl)
caret_only _ rest symbols e h = absurd (omega (arith, ap first_code e))

bracket_only : (t : Term) (rest symbols : List Symbol) → term_then t rest ≡ mark 60 ∷ symbols
    → ((u : Term) (more : Joined) (behind : List Symbol) → term_then u (joined_then more (mark 62 ∷ behind)) ≡ symbols → ⊥) → ⊥
bracket_only (bracketed t more) rest symbols e h = h t more rest cc
bracket_only _ rest symbols e h = absurd (omega (arith, ap first_code e))

-- what a term may begin with: not with a text
abbrev pub begins_term : TokenKind → Bool
begins_term (Number n) = true
begins_term Name = true
begins_term Text = false
begins_term (Mark m) = true

-- no term begins with this symbol
abbrev NoTermFirst : Symbol → Type 0
NoTermFirst s = (t : Term) (rest symbols : List Symbol) → term_then t rest ≡ s ∷ symbols → ⊥

text_first : (text : List ℕ) → NoTermFirst (characters text)
text_first text (constant n) rest symbols e = cc
text_first text (named_by s) rest symbols e = cc
text_first text (quoted x) rest symbols e = cc
text_first text (mask names) rest symbols e = cc
text_first text (single_mask register) rest symbols e = cc
text_first text (plus t) rest symbols e = cc
text_first text (minus t) rest symbols e = cc
text_first text (complement t) rest symbols e = cc
text_first text (bracketed t more) rest symbols e = cc

other_mark : (m : ℕ) → m ≢ 43 → m ≢ 45 → m ≢ 60 → m ≢ 94 → NoTermFirst (mark m)
other_mark m p q r s (constant n) rest symbols e = cc
other_mark m p q r s (named_by x) rest symbols e = cc
other_mark m p q r s (quoted x) rest symbols e = s (sym (ap first_code e))
other_mark m p q r s (mask names) rest symbols e = s (sym (ap first_code e))
other_mark m p q r s (single_mask register) rest symbols e = s (sym (ap first_code e))
other_mark m p q r s (plus t) rest symbols e = p (sym (ap first_code e))
other_mark m p q r s (minus t) rest symbols e = q (sym (ap first_code e))
other_mark m p q r s (complement t) rest symbols e = s (sym (ap first_code e))
other_mark m p q r s (bracketed t more) rest symbols e = r (sym (ap first_code e))

other_first : (kind : TokenKind) (text : List ℕ) → begins_term kind ≡ false → NoTermFirst (symbol kind text)
other_first (Number n) text e = absurd cc
other_first Name text e = absurd cc
other_first Text text e = text_first (characters_in text)
other_first (Mark m) text e = absurd cc

module _ (line : List ℕ) (tokens : List Token) where
  abbrev pub all : List Symbol
  all = symbols_of line tokens

  -- two symbols in a row
  two : (at : ℕ) (a b : Symbol) → Stands line tokens at a → Stands line tokens (at + 1) b → drop at all ≡ a ∷ b ∷ drop (at + 2) all
  two at a b s t =
      let here : drop at all ≡ a ∷ drop (at + 1) all = s.is in
      let there : drop (at + 1) all ≡ b ∷ drop (at + 1 + 1) all = t.is in
      let same : at + 1 + 1 ≡ at + 2 = omega arith in
      let behind : drop (at + 1 + 1) all ≡ drop (at + 2) all = ap (λ (k : ℕ). drop k all) same in
      cc

  pub name_stands : (at : ℕ) (t : Token) → slice_get tokens at ≡ Some t → t.kind ≡ Name → Stands line tokens at (name (canonical_name (token_text line t)))
  name_stands at t e k =
      let there = token_stands line tokens at t e in
      let is : symbol_of line t ≡ name (canonical_name (token_text line t)) = ap (λ (kind : TokenKind). symbol kind (token_text line t)) k in
      record { room = there.room; is = there.is ∙ ap (λ (s : Symbol). s ∷ drop (at + 1) all) is }

  -- ---- the names of a mask

  pub names_end : (bits : Option ℕ) (at : ℕ) (s : List ℕ) (answer : Result Value ExprError) → Stands line tokens at (name s) → Stands line tokens (at + 1) (mark 62)
      → answer ≡ mask_outcome (with_bit bits (mask_bit s)) → ReadsNames bits all at (Some (record { answer = answer; end = at + 2 }))
  names_end bits at s answer a b e =
      (omega arith, omega (arith, length-symbols line tokens, b.room), record { first = s; others = []; spells = sym (two at (name s) (mark 62) a b); gives = e })

  pub names_more : (bits : Option ℕ) (at : ℕ) (s : List ℕ) (r : Option Read) → Stands line tokens at (name s) → Stands line tokens (at + 1) (mark 44)
      → ReadsNames (with_bit bits (mask_bit s)) all (at + 2) r → ReadsNames bits all at r
  names_more bits at s None a b h = λ r names rest e. no_more r names rest (e ∙ two at (name s) (mark 44) a b)
    where
      no_more : (r : List ℕ) (names : List (List ℕ)) (rest : List Symbol) → names_then (r ∷ names) (mark 62 ∷ rest) ≡ name s ∷ mark 44 ∷ drop (at + 2) all → ⊥
      no_more r [] rest e = absurd (omega (arith, ap second_code e))
      no_more r (n ∷ names) rest e = h n names rest cc
  names_more bits at s (Some r) a b h =
      let more = h.2 in
      let later : names_then (more.first ∷ more.others) (mark 62 ∷ drop r.end all) ≡ drop (at + 2) all = more.spells in (
        omega (arith, h.0),
        h.1,
        record {
          first = s;
          others = more.first ∷ more.others;
          spells = ap (λ (x : List Symbol). name s ∷ mark 44 ∷ x) later ∙ sym (two at (name s) (mark 44) a b);
          gives = more.gives;
        },
      )

  pub no_names_nothing : (bits : Option ℕ) (at : ℕ) → slice_get tokens at ≡ None → ReadsNames bits all at None
  no_names_nothing bits at h r [] rest e = let nothing : drop at all ≡ [] = nothing_stands line tokens at h in absurd cc
  no_names_nothing bits at h r (n ∷ names) rest e = let nothing : drop at all ≡ [] = nothing_stands line tokens at h in absurd cc

  -- no name
  other_code : (kind : TokenKind) (text : List ℕ) (s : List ℕ) → kind ≢ Name → symbol kind text ≢ name s
  other_code Name text s h e = h refl
  other_code (Number n) text s h e = cc
  other_code (Mark m) text s h e = cc
  other_code Text text s h e = cc

  pub no_names_kind : (bits : Option ℕ) (at : ℕ) (t : Token) → slice_get tokens at ≡ Some t → t.kind ≢ Name → ReadsNames bits all at None
  no_names_kind bits at t h k r [] rest e =
      let there : drop at all ≡ symbol_of line t ∷ drop (at + 1) all = (token_stands line tokens at t h).is in
      let same : symbol_of line t ≡ name r = cc in
      other_code t.kind (token_text line t) r k same
  no_names_kind bits at t h k r (n ∷ names) rest e =
      let there : drop at all ≡ symbol_of line t ∷ drop (at + 1) all = (token_stands line tokens at t h).is in
      let same : symbol_of line t ≡ name r = cc in
      other_code t.kind (token_text line t) r k same

  pub no_names_else : (bits : Option ℕ) (at : ℕ) (s : List ℕ) → Stands line tokens at (name s)
      → is_that_mark 44 (slice_get tokens (at + 1)) ≡ false → is_that_mark 62 (slice_get tokens (at + 1)) ≡ false → ReadsNames bits all at None
  no_names_else bits at s a c b r [] rest e =
      let here : drop at all ≡ name s ∷ drop (at + 1) all = a.is in
      no_mark line tokens (at + 1) 62 b rest cc
  no_names_else bits at s a c b r (n ∷ names) rest e =
      let here : drop at all ≡ name s ∷ drop (at + 1) all = a.is in
      no_mark line tokens (at + 1) 44 c (names_then (n ∷ names) (mark 62 ∷ rest)) cc

  -- ---- `^A` and `^M`

  pub text_read : (at : ℕ) (t : Token) (answer : Result Value ExprError) → slice_get tokens at ≡ Some t → t.kind ≡ Text
      → answer ≡ characters_value (characters_in (token_text line t)) → ReadsQuoted all at (Some (record { answer = answer; end = at + 1 }))
  text_read at t answer e k v =
      let there = token_stands line tokens at t e in
      let is : symbol_of line t ≡ characters (characters_in (token_text line t)) = ap (λ (kind : TokenKind). symbol kind (token_text line t)) k in
      (omega arith, omega (arith, length-symbols line tokens, there.room), characters_in (token_text line t), sym (there.is ∙ ap (λ (s : Symbol). s ∷ drop (at + 1) all) is), v)

  pub no_text_nothing : (at : ℕ) → slice_get tokens at ≡ None → ReadsQuoted all at None
  no_text_nothing at h text rest e = let nothing : drop at all ≡ [] = nothing_stands line tokens at h in absurd cc

  not_text : (kind : TokenKind) (text s : List ℕ) → kind ≢ Text → symbol kind text ≢ characters s
  not_text Text text s h e = h refl
  not_text (Number n) text s h e = cc
  not_text (Mark m) text s h e = cc
  not_text Name text s h e = cc

  pub no_text_kind : (at : ℕ) (t : Token) → slice_get tokens at ≡ Some t → t.kind ≢ Text → ReadsQuoted all at None
  no_text_kind at t h k text rest e =
      let there : drop at all ≡ symbol_of line t ∷ drop (at + 1) all = (token_stands line tokens at t h).is in
      let same : symbol_of line t ≡ characters text = cc in
      not_text t.kind (token_text line t) text k same

  pub mask_empty : (at : ℕ) (answer : Result Value ExprError) → Stands line tokens at (mark 60) → Stands line tokens (at + 1) (mark 62)
      → answer ≡ mask_value [] → ReadsMask all at (Some (record { answer = answer; end = at + 2 }))
  mask_empty at answer a b v = (omega arith, omega (arith, length-symbols line tokens, b.room), [], sym (two at (mark 60) (mark 62) a b), v)

  pub mask_some : (at : ℕ) (r : Option Read) → Stands line tokens at (mark 60) → is_that_mark 62 (slice_get tokens (at + 1)) ≡ false
      → ReadsNames (Some 0) all (at + 1) r → ReadsMask all at r
  mask_some at None a b h = none
    where
      none : (names : List (List ℕ)) (rest : List Symbol) → mark 60 ∷ names_then names (mark 62 ∷ rest) ≡ drop at all → ⊥
      none [] rest e = let here : drop at all ≡ mark 60 ∷ drop (at + 1) all = a.is in no_mark line tokens (at + 1) 62 b rest cc
      none (r ∷ names) rest e = let here : drop at all ≡ mark 60 ∷ drop (at + 1) all = a.is in h r names rest cc
  mask_some at (Some r) a b h =
      let more = h.2 in
      let later : names_then (more.first ∷ more.others) (mark 62 ∷ drop r.end all) ≡ drop (at + 1) all = more.spells in
      (omega (arith, h.0), h.1, more.first ∷ more.others, ap (λ (x : List Symbol). mark 60 ∷ x) later ∙ sym a.is, more.gives)

  pub no_mask : (at : ℕ) → is_that_mark 60 (slice_get tokens at) ≡ false → ReadsMask all at None
  no_mask at h names rest e = no_mark line tokens at 60 h (names_then names (mark 62 ∷ rest)) (sym e)

  -- ---- `^M` without brackets

  pub single_mask_some : (d : Dialect) (at : ℕ) (s : List ℕ) (answer : Result Value ExprError) → Stands line tokens at (name s) → answer ≡ single_mask_value d s
      → ReadsSingleMask d all at (Some (record { answer = answer; end = at + 1 }))
  single_mask_some d at s answer a v = (omega arith, omega (arith, length-symbols line tokens, a.room), s, sym a.is, v)

  pub no_single_mask_nothing : (d : Dialect) (at : ℕ) → slice_get tokens at ≡ None → ReadsSingleMask d all at None
  no_single_mask_nothing d at h register rest e = let nothing : drop at all ≡ [] = nothing_stands line tokens at h in absurd cc

  pub no_single_mask_kind : (d : Dialect) (at : ℕ) (t : Token) → slice_get tokens at ≡ Some t → t.kind ≢ Name → ReadsSingleMask d all at None
  no_single_mask_kind d at t h k register rest e =
      let there : drop at all ≡ symbol_of line t ∷ drop (at + 1) all = (token_stands line tokens at t h).is in
      let same : symbol_of line t ≡ name register = cc in
      other_code t.kind (token_text line t) register k same

  -- ---- terms

  module _ (names : Sense) where
    -- a term that one symbol spells
    pub constant_read : (at n : ℕ) (answer : Result Value ExprError) → Stands line tokens at (number n) → answer ≡ Ok (Absolute (cast_signed w64 n))
        → ReadsTerm names all at (Some (record { answer = answer; end = at + 1 }))
    constant_read at n answer a v = (omega arith, omega (arith, length-symbols line tokens, a.room), record { term = constant n; spells = sym a.is; gives = v })

    pub named_read : (at : ℕ) (s : List ℕ) (answer : Result Value ExprError) → Stands line tokens at (name s) → answer ≡ named names s
        → ReadsTerm names all at (Some (record { answer = answer; end = at + 1 }))
    named_read at s answer a v = (omega arith, omega (arith, length-symbols line tokens, a.room), record { term = named_by s; spells = sym a.is; gives = v })

    pub no_term_nothing : (at : ℕ) → slice_get tokens at ≡ None → ReadsTerm names all at None
    no_term_nothing at h t rest e = some_symbol t rest (e ∙ nothing_stands line tokens at h)

    -- a sign of one symbol
    pub plus_read : (at : ℕ) (r : Option Read) → Stands line tokens at (mark 43) → ReadsTerm names all (at + 1) r → ReadsTerm names all at r
    plus_read at None a h = λ t rest e. plus_only t rest (drop (at + 1) all) (e ∙ a.is) h
    plus_read at (Some r) a h = let x = h.2 in
        (omega (arith, h.0), h.1, record { term = plus x.term; spells = ap (λ (y : List Symbol). mark 43 ∷ y) x.spells ∙ sym a.is; gives = x.gives })

    pub minus_read : (at : ℕ) (r : Read) (answer : Result Value ExprError) → Stands line tokens at (mark 45) → ReadsTerm names all (at + 1) (Some r) → answer ≡ minus_of names.dialect r.answer
        → ReadsTerm names all at (Some (record { answer = answer; end = r.end }))
    minus_read at r answer a h v = let x = h.2 in
        (omega (arith, h.0), h.1, record { term = minus x.term; spells = ap (λ (y : List Symbol). mark 45 ∷ y) x.spells ∙ sym a.is; gives = v ∙ ap (minus_of names.dialect) x.gives })

    pub no_minus : (at : ℕ) → Stands line tokens at (mark 45) → ReadsTerm names all (at + 1) None → ReadsTerm names all at None
    no_minus at a h t rest e = minus_only t rest _ (e ∙ a.is) h

    pub complement_read : (at : ℕ) (r : Read) (answer : Result Value ExprError) → Stands line tokens at (mark 94) → Stands line tokens (at + 1) (name (67 ∷ []))
        → ReadsTerm names all (at + 2) (Some r) → answer ≡ complement_of names.dialect r.answer → ReadsTerm names all at (Some (record { answer = answer; end = r.end }))
    complement_read at r answer a b h v = let x = h.2 in
        (omega (arith, h.0), h.1, record { term = complement x.term; spells = ap (λ (y : List Symbol). mark 94 ∷ name (67 ∷ []) ∷ y) x.spells ∙ sym (two at (mark 94) (name (67 ∷ [])) a b); gives = v ∙ ap (complement_of names.dialect) x.gives })

    pub no_complement : (at : ℕ) → Stands line tokens at (mark 94) → Stands line tokens (at + 1) (name (67 ∷ [])) → ReadsTerm names all (at + 2) None → ReadsTerm names all at None
    no_complement at a b h t rest e = complement_only t rest _ (e ∙ two at (mark 94) (name (67 ∷ [])) a b) h

    pub quoted_read : (at : ℕ) (r : Option Read) → Stands line tokens at (mark 94) → Stands line tokens (at + 1) (name (65 ∷ [])) → ReadsQuoted all (at + 2) r → ReadsTerm names all at r
    quoted_read at None a b h = λ t rest e. quoted_only t rest (drop (at + 2) all) (e ∙ two at (mark 94) (name (65 ∷ [])) a b) h
    quoted_read at (Some r) a b h =
        (omega (arith, h.0), h.1, record { term = quoted h.2; spells = ap (λ (y : List Symbol). mark 94 ∷ name (65 ∷ []) ∷ y) h.3 ∙ sym (two at (mark 94) (name (65 ∷ [])) a b); gives = h.4 })

    pub mask_read : (at : ℕ) (r : Option Read) → Stands line tokens at (mark 94) → Stands line tokens (at + 1) (name (77 ∷ [])) → Stands line tokens (at + 2) (mark 60) → ReadsMask all (at + 2) r → ReadsTerm names all at r
    mask_read at None a b c h = λ t rest e. mask_only t rest (drop (at + 2) all) (e ∙ two at (mark 94) (name (77 ∷ [])) a b) h
        (λ register more i. let here : drop (at + 2) all ≡ mark 60 ∷ drop (at + 2 + 1) all = c.is in absurd cc)
    mask_read at (Some r) a b c h =
        (omega (arith, h.0), h.1, record { term = mask h.2; spells = ap (λ (y : List Symbol). mark 94 ∷ name (77 ∷ []) ∷ y) h.3 ∙ sym (two at (mark 94) (name (77 ∷ [])) a b); gives = h.4 })

    pub single_mask_read : (at : ℕ) (r : Option Read) → Stands line tokens at (mark 94) → Stands line tokens (at + 1) (name (77 ∷ [])) → is_that_mark 60 (slice_get tokens (at + 2)) ≡ false
        → ReadsSingleMask names.dialect all (at + 2) r → ReadsTerm names all at r
    single_mask_read at None a b c h = λ t rest e. mask_only t rest (drop (at + 2) all) (e ∙ two at (mark 94) (name (77 ∷ [])) a b)
        (λ registers more i. no_mark line tokens (at + 2) 60 c (names_then registers (mark 62 ∷ more)) (sym i)) h
    single_mask_read at (Some r) a b c h =
        (omega (arith, h.0), h.1, record { term = single_mask h.2; spells = ap (λ (y : List Symbol). mark 94 ∷ name (77 ∷ []) ∷ y) h.3 ∙ sym (two at (mark 94) (name (77 ∷ [])) a b); gives = h.4 })

    -- a `^` with nothing of this behind it
    pub no_letter : (at : ℕ) → Stands line tokens at (mark 94) → slice_get tokens (at + 1) ≡ None → ReadsTerm names all at None
    no_letter at a h t rest e =
        let nothing : drop (at + 1) all ≡ [] = nothing_stands line tokens (at + 1) h in
        caret_only t rest (drop (at + 1) all) (e ∙ a.is) (λ s more i. let same : drop (at + 1) all ≡ name s ∷ more = i.0 in absurd cc)

    pub no_letter_kind : (at : ℕ) (u : Token) → Stands line tokens at (mark 94) → slice_get tokens (at + 1) ≡ Some u → u.kind ≢ Name → ReadsTerm names all at None
    no_letter_kind at u a h k t rest e =
        let there : drop (at + 1) all ≡ symbol_of line u ∷ drop (at + 1 + 1) all = (token_stands line tokens (at + 1) u h).is in
        caret_only t rest (drop (at + 1) all) (e ∙ a.is) (λ s more i. let same : drop (at + 1) all ≡ name s ∷ more = i.0 in other_code u.kind (token_text line u) s k cc)

    pub no_letter_other : (at : ℕ) (s : List ℕ) → Stands line tokens at (mark 94) → Stands line tokens (at + 1) (name s)
        → s ≢ 67 ∷ [] → s ≢ 65 ∷ [] → s ≢ 77 ∷ [] → ReadsTerm names all at None
    no_letter_other at s a b x y z t rest e =
        let there : drop (at + 1) all ≡ name s ∷ drop (at + 1 + 1) all = b.is in
        caret_only t rest (drop (at + 1) all) (e ∙ a.is) (λ u more i. let same : drop (at + 1) all ≡ name u ∷ more = i.0 in let here : s ≡ u = cc in
        ⊎_elim (λ (p : u ≡ 67 ∷ []). x (here ∙ p)) (λ p. ⊎_elim (λ (q : u ≡ 65 ∷ []). y (here ∙ q)) (λ (q : u ≡ 77 ∷ []). z (here ∙ q)) p) i.1)

    -- a term that begins with none of these
    pub no_term_other : (at : ℕ) (u : Token) → slice_get tokens at ≡ Some u → begins_term u.kind ≡ false → ReadsTerm names all at None
    no_term_other at u h k t rest e =
        let there : drop at all ≡ symbol_of line u ∷ drop (at + 1) all = (token_stands line tokens at u h).is in
        other_first u.kind (token_text line u) k t rest (drop (at + 1) all) (e ∙ there)

    pub no_term_mark : (at m : ℕ) → is_that_mark m (slice_get tokens at) ≡ true → m ≢ 43 → m ≢ 45 → m ≢ 60 → m ≢ 94 → ReadsTerm names all at None
    no_term_mark at m h p q r s t rest e = other_mark m p q r s t rest (drop (at + 1) all) (e ∙ (mark_stands line tokens at m h).is)

    -- ---- brackets

    pub bracket_read : (at : ℕ) (r : Read) → Stands line tokens at (mark 60) → ReadsExpression names all (at + 1) (Some r) → Stands line tokens r.end (mark 62)
        → ReadsTerm names all at (Some (record { answer = r.answer; end = r.end + 1 }))
    bracket_read at r a h b = let x = h.2 in (
      omega (arith, h.0),
      omega (arith, length-symbols line tokens, b.room),
      record {
        term = bracketed x.term x.more;
        spells = ap (λ (y : List Symbol). mark 60 ∷ term_then x.term (joined_then x.more y)) (sym b.is) ∙ ap (λ (y : List Symbol). mark 60 ∷ y) x.spells ∙ sym a.is;
        gives = x.gives;
      },
    )

    pub no_bracket : (at : ℕ) → Stands line tokens at (mark 60) → ReadsExpression names all (at + 1) None → ReadsTerm names all at None
    no_bracket at a h t rest e = bracket_only t rest (drop (at + 1) all) (e ∙ a.is) (λ u more behind i. h u more (mark 62 ∷ behind) (bracket_ends behind) i)

    pub no_bracket_end : (at : ℕ) (r : Read) → Stands line tokens at (mark 60) → ReadsExpression names all (at + 1) (Some r)
        → is_that_mark 62 (slice_get tokens r.end) ≡ false → ReadsTerm names all at None
    no_bracket_end at r a h b t rest e = let x = h.2 in
        bracket_only t rest (drop (at + 1) all) (e ∙ a.is) (λ u more behind i.
        let first = unique_term u x.term (joined_then more (mark 62 ∷ behind)) (joined_then x.more (drop r.end all)) (i ∙ sym x.spells) in
        let second = unique_joined more x.more (mark 62 ∷ behind) (drop r.end all) (bracket_ends behind) x.whole first.1 in
        no_mark line tokens r.end 62 b behind (sym second.1))

    -- ---- terms joined by operators

    pub so_far_begin : (at : ℕ) (r : Read) → ReadsTerm names all at (Some r) → SoFar names all at r.answer r.end
    so_far_begin at r h = let x = h.2 in record {
      begins = h.0;
      within = h.1;
      continues = λ more rest e. (x.term, more, ap (term_then x.term) e ∙ x.spells, ap (λ (v : Result Value ExprError). joined_value names v more) (sym x.gives));
      leaves = λ t whole rest q e. let same = unique_term t x.term (joined_then whole rest) (drop r.end all) (e ∙ sym x.spells) in (whole, same.1);
    }

    -- what is left behind an operator
    behind_operator : (operator : Operation) (symbols : List Symbol) (more : Joined) (rest : List Symbol) → NotOperator rest → joined_then more rest ≡ mark (operator_mark operator) ∷ symbols
        → (u : Term) × (others : Joined) × (term_then u (joined_then others rest) ≡ symbols)
    behind_operator operator symbols finish rest q e = absurd (q operator symbols e)
    behind_operator operator symbols (joined b u others) rest q e = (u, others, cc)

    pub so_far_more : (at end : ℕ) (answer new : Result Value ExprError) (operator : Operation) (r : Read) → SoFar names all at answer end → Stands line tokens end (mark (operator_mark operator))
        → ReadsTerm names all (end + 1) (Some r) → new ≡ combined names.dialect operator answer r.answer → SoFar names all at new r.end
    so_far_more at end answer new operator r s there h v = let x = h.2 in record {
      begins = omega (arith, s.begins, h.0);
      within = h.1;
      continues = λ more rest e.
          let next : joined_then (joined operator x.term more) rest ≡ drop end all = ap (λ (y : List Symbol). mark (operator_mark operator) ∷ y) (ap (term_then x.term) e ∙ x.spells) ∙ sym there.is in
          let before = s.continues (joined operator x.term more) rest next in
          let value : combined names.dialect operator answer (term_value names x.term) ≡ new = ap (combined names.dialect operator answer) (sym x.gives) ∙ sym v in
          (before.0, before.1, before.2, before.3 ∙ ap (λ (y : Result Value ExprError). joined_value names y more) value);
      leaves = λ t whole rest q e.
          let before = s.leaves t whole rest q e in
          let left = behind_operator operator (drop (end + 1) all) before.0 rest q (before.1 ∙ there.is) in
          let same = unique_term left.0 x.term (joined_then left.1 rest) (drop r.end all) (left.2 ∙ sym x.spells) in
          (left.1, same.1);
    }

    pub so_far_none : (at end : ℕ) (answer : Result Value ExprError) (operator : Operation) → SoFar names all at answer end → Stands line tokens end (mark (operator_mark operator))
        → ReadsTerm names all (end + 1) None → ReadsExpression names all at None
    so_far_none at end answer operator s there h t whole rest q e =
        let before = s.leaves t whole rest q e in
        let left = behind_operator operator (drop (end + 1) all) before.0 rest q (before.1 ∙ there.is) in
        h left.0 (joined_then left.1 rest) left.2

    pub so_far_end : (at end : ℕ) (answer : Result Value ExprError) → SoFar names all at answer end → operator_in (slice_get tokens end) ≡ None
        → ReadsExpression names all at (Some (record { answer = answer; end = end }))
    so_far_end at end answer s o =
        let x = s.continues finish (drop end all) refl in
        (s.begins, s.within, record { term = x.0; more = x.1; spells = x.2; gives = sym x.3; whole = no_operator line tokens end o })

    pub no_first : (at : ℕ) → ReadsTerm names all at None → ReadsExpression names all at None
    no_first at h t more rest q e = h t (joined_then more rest) e

    -- ---- the whole

    nothing_more : NotOperator []
    nothing_more operator rest e = cc

    pub whole_read : (r : Read) → ReadsExpression names all 0 (Some r) → r.end ≡ length tokens → Evaluates names all r.answer
    whole_read r h e = let x = h.2 in
        let behind : drop r.end all ≡ [] = drop_all r.end all (omega (arith, length-symbols line tokens)) in
        inl (record { first = x.term; more = x.more }, ap (λ (y : List Symbol). term_then x.term (joined_then x.more y)) (sym behind) ∙ x.spells, x.gives)

    pub not_whole : (r : Read) → ReadsExpression names all 0 (Some r) → r.end ≢ length tokens → Evaluates names all (Err Form)
    not_whole r h n = let x = h.2 in inr (
      λ e i.
          let first = unique_term e.first x.term (joined_then e.more []) (joined_then x.more (drop r.end all)) (i ∙ sym x.spells) in
          let second = unique_joined e.more x.more [] (drop r.end all) nothing_more x.whole first.1 in
          n (omega (arith, h.1, length-symbols line tokens, length-drop r.end all, ap length second.1)),
      refl,
    )

    pub not_read : ReadsExpression names all 0 None → Evaluates names all (Err Form)
    not_read h = inr (λ e i. h e.first e.more [] nothing_more i, refl)

    pub only_reading : (answer : Result Value ExprError) → Evaluates names all answer → (e : Expression) → spelling e ≡ all → answer ≡ value_of names e
    only_reading answer v e i = ⊎_elim
        (λ (p : (f : Expression) × (spelling f ≡ all) × (answer ≡ value_of names f)).
        let first = unique_term p.0.first e.first (joined_then p.0.more []) (joined_then e.more []) (p.1 ∙ sym i) in
        let second = unique_joined p.0.more e.more [] [] nothing_more nothing_more first.1 in
        let here : p.0.first ≡ e.first = first.0 in
        let there : p.0.more ≡ e.more = second.0 in
        p.2 ∙ ap (λ (t : Term). joined_value names (term_value names t) p.0.more) here ∙ ap (joined_value names (term_value names e.first)) there)
        (λ (p : ((f : Expression) → spelling f ≢ all) × (answer ≡ Err Form)). absurd (p.0 e i)) v
