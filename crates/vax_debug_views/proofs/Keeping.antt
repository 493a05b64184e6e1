-- What the frame of a call keeps.
use Rattle.std.proofs.Common.{◌≡◌, ◌+◌, ◌*◌, ◌/◌, ◌%◌, ◌^◌, ◌≤◌, ◌==◌, ℕ, Bool, true, false, cond, if◌then◌else◌, List, [], ◌∷◌, ◌++◌, length, map, Option, append-nil, refl, sym, ap, ◌∙◌, arith, length-append}
use Rattle.std.specs.List.{filter, range_with_len}
use Rattle.std.proofs.lemmas.List.{length-map, map-append, map-id}
use Rattle.std.proofs.lemmas.List.FromFn.{filter_of_map_range_with_len_more, map-range_with_len_more}
use Rattle.vax_word.specs.Status.{is_one}
use Rattle.vax_flat.specs.Call.{named}
use Rattle.vax_flat.specs.Step.{Flat}
use Rattle.vax_debug.specs.Calls.{longword_at}
use Rattle.vax_debug_names.specs.declared.Legend.{Legend}
use Rattle.vax_debug_replies.specs.Frames.{frame_line, saved_line}
use Rattle.vax_debug_replies.specs.declared.frames.Frame.{Frame}
use Rattle.vax_debug_replies.specs.declared.frames.SavedRegister.{SavedRegister}
use Rattle.vax_debug_views.specs.Views.{argument, arguments_of, arguments_shown, contents_shown, count_in, first_arguments, frame_shown, mask_in, saved, saved_below, saved_register, saved_shown}

-- arguments

pub argument_more : (frame : Frame) (m : Flat) (n : ℕ) (before after : List (Option ℕ)) (one : Option ℕ) → before ≡ first_arguments n frame m → one ≡ argument frame m n → after ≡ before ++ one ∷ [] → after ≡ first_arguments (n + 1) frame m
argument_more frame m n before after one so is more =
    more ∙ ((λ k. so k ++ is k ∷ []) ∙ sym (map-range_with_len_more (argument frame m) 0 n n (omega arith)))

pub few_arguments : (n : ℕ) (before after : List (Option ℕ)) (one : Option ℕ) → length before ≤ n → after ≡ before ++ one ∷ [] → length after ≤ n + 1
few_arguments n before after one few more = omega (arith, few, ap length more, length-append before (one ∷ []))

pub arguments_told : (frame : Frame) (m : Flat) (first : Option ℕ) (count : ℕ) → count ≡ count_in first → first ≡ longword_at m frame.ap → arguments_of count frame m ≡ arguments_shown frame m
unfolding arguments_shown
arguments_told frame m first count is at = ap (λ (n : ℕ). arguments_of n frame m) (is ∙ ap count_in at)

-- saved registers

named_more : (number mask : ℕ) → named (number + 1) mask ≡ named number mask ++ cond (is_one mask number) (number ∷ []) []
unfolding named
named_more number mask =
    let p : ℕ → Bool = is_one mask in
    ap (filter p) (sym (map-id (range_with_len 0 (number + 1))))
    ∙ filter_of_map_range_with_len_more p (λ x. x) 0 number number (omega arith)
    ∙ ap (λ xs. filter p xs ++ cond (p number) (number ∷ []) []) (map-id (range_with_len 0 number))

pub bit_off : (mask number : ℕ) → mask / 2 ^ number % 2 ≡ 0 → is_one mask number ≡ false
bit_off mask number e = ap (λ (n : ℕ). n == 1) e

odd : (n : ℕ) → (n % 2 ≡ 0 → ⊥) → n % 2 ≡ 1
odd n e = omega (arith, e)

pub bit_on : (mask number : ℕ) → (mask / 2 ^ number % 2 ≡ 0 → ⊥) → is_one mask number ≡ true
bit_on mask number e = ap (λ (n : ℕ). n == 1) (odd (mask / 2 ^ number) e)

pub no_registers : (frame : Frame) (m : Flat) (mask : ℕ) → [] ≡ saved_below 0 mask frame m
unfolding named
no_registers frame m mask = refl

pub register_more : (frame : Frame) (m : Flat) (mask number : ℕ) (before after : List SavedRegister) (one : SavedRegister) → is_one mask number ≡ true → before ≡ saved_below number mask frame m → one ≡ saved_register mask frame m number → after ≡ before ++ one ∷ [] →
    after ≡ saved_below (number + 1) mask frame m
register_more frame m mask number before after one bit so is more =
    let f : ℕ → SavedRegister = saved_register mask frame m in
    let names : named (number + 1) mask ≡ named number mask ++ number ∷ [] = named_more number mask ∙ ap (λ (b : Bool). named number mask ++ cond b (number ∷ []) []) bit in
    more ∙ ((λ k. so k ++ is k ∷ []) ∙ sym (ap (map f) names ∙ map-append f (named number mask) (number ∷ [])))

pub register_not_named : (frame : Frame) (m : Flat) (mask number : ℕ) (before : List SavedRegister) → is_one mask number ≡ false → before ≡ saved_below number mask frame m → before ≡ saved_below (number + 1) mask frame m
register_not_named frame m mask number before bit so =
    let names : named (number + 1) mask ≡ named number mask = named_more number mask ∙ (ap (λ (b : Bool). named number mask ++ cond b (number ∷ []) []) bit ∙ append-nil (named number mask)) in
    so ∙ sym (ap (map (saved_register mask frame m)) names)

-- where the value of the next register lies
pub value_told : (frame : Frame) (m : Flat) (mask number offset : ℕ) (before : List SavedRegister) (value : Option ℕ) (one : SavedRegister) → before ≡ saved_below number mask frame m → offset ≡ 20 + 4 * length before → value ≡ saved offset frame m → one ≡ record { number = number; value = value } →
    one ≡ saved_register mask frame m number
value_told frame m mask number offset before value one so at is made =
    let count : length before ≡ length (named number mask) = ap length so ∙ length-map (named number mask) (saved_register mask frame m) in
    made ∙ ap (λ (x : Option ℕ). record { number = number; value = x }) (is ∙ ap (λ (n : ℕ). saved n frame m) (at ∙ ap (λ (n : ℕ). 20 + 4 * n) count))

pub few_registers : (n : ℕ) (before after : List SavedRegister) (one : SavedRegister) → length before ≤ n → after ≡ before ++ one ∷ [] → length after ≤ n + 1
few_registers n before after one few more = omega (arith, few, ap length more, length-append before (one ∷ []))

pub next_offset : (offset next : ℕ) (before after : List SavedRegister) (one : SavedRegister) → offset ≡ 20 + 4 * length before → after ≡ before ++ one ∷ [] → next ≡ offset + 4 → next ≡ 20 + 4 * length after
next_offset offset next before after one at more is = omega (arith, at, is, ap length more, length-append before (one ∷ []))

pub saved_told : (frame : Frame) (m : Flat) (word : Option ℕ) (mask : ℕ) → mask ≡ mask_in word → word ≡ saved 4 frame m → saved_line (saved_below 12 mask frame m) ≡ saved_shown frame m
unfolding saved_shown
saved_told frame m word mask is at = ap (λ (n : ℕ). saved_line (saved_below 12 n frame m)) (is ∙ ap mask_in at)

-- both

pub no_contents : (frame : Frame) (m : Flat) → frame.fp ≡ 0 → contents_shown frame m ≡ []
unfolding contents_shown
no_contents frame m none = ap (λ (n : ℕ). if n == 0 then [] else (arguments_shown frame m ++ saved_shown frame m)) none

pub some_contents : (frame : Frame) (m : Flat) → (frame.fp == 0) ≡ false → arguments_shown frame m ++ saved_shown frame m ≡ contents_shown frame m
unfolding contents_shown
some_contents frame m some = ap (λ (b : Bool). if b then [] else (arguments_shown frame m ++ saved_shown frame m)) (sym some)

pub with_contents : (legend : Legend) (number : ℕ) (frame : Frame) (m : Flat) → frame_line legend number frame ++ contents_shown frame m ≡ frame_shown legend number frame m
unfolding frame_shown
with_contents legend number frame m = refl
