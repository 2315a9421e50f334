-- Step sizes one behind another: how far a loop that reads them has come.
use Rattle.std.proofs.Common.{◌≡◌, ℕ, zero, suc, ◌+◌, ◌<◌, ◌≤◌, List, [], ◌∷◌, ◌++◌, length, get_or, set, replicate, sym, refl, ap, ap₂, ◌∙◌, arith, length-append, length-set}
use Rattle.layouts.specs.Layouts.{Reading, read, meaning, fields, values_of}
use Rattle.layouts.proofs.Exits.{is_read}
use Rattle.layouts.proofs.Times.{Run, run_none, run_more, run_all}
use Rattle.quantization.specs.declared.info.QuantizationStyle.{QuantizationStyle}
use Rattle.quantization.specs.declared.info.StepSize.{StepSize}
use Rattle.quantization.specs.Quantization.{step_table, steps_layout, step_of, kept, KeptEach, MadeStep, MadeSteps}

kept_push :
    (n : ℕ) (s : QuantizationStyle) (vs : List ℕ) (v : ℕ) → set (kept n s vs) (length vs) (step_of s v) ≡ kept n s (vs ++ v ∷ [])
kept_push zero s vs v = refl
kept_push (suc n) s [] v = refl
kept_push (suc n) s (u ∷ vs) v = ap (λ (l : List StepSize). step_of s u ∷ l) (kept_push n s vs v)

pub kept_each : KeptEach
kept_each (suc n) s [] zero h = (λ l. absurd (omega arith), λ _. refl)
kept_each (suc n) s [] (suc k) h = (λ l. absurd (omega arith), λ _. (kept_each n s [] k (omega arith)).1 (omega arith))
kept_each (suc n) s (v ∷ vs) zero h = (λ _. refl, λ l. absurd (omega arith))
kept_each (suc n) s (v ∷ vs) (suc k) h =
    let r = kept_each n s vs k (omega arith) in
    (λ l. r.0 (omega arith), λ l. r.1 (omega arith))
kept_each zero s vs k h = absurd (omega arith)

alone_is : (ws : List ℕ) → length ws ≡ 1 → ws ≡ get_or ws 0 0 ∷ []
alone_is [] e = absurd (omega arith)
alone_is (w ∷ []) e = refl
alone_is (w ∷ v ∷ ws) e = absurd (omega arith)

-- k of n step sizes are read
pub record Stepped (s : QuantizationStyle) (n : ℕ) (d : List ℕ) (p0 k p : ℕ) (steps : List StepSize) : Type 0 where
  pub run : Run (fields (step_table s)) n d p0 k p
  pub long : length run.vs ≡ k
  pub room : length steps ≡ 97
  pub says : steps ≡ kept 97 s run.vs

pub stepped_none :
    (s : QuantizationStyle) (n : ℕ) (d : List ℕ) (p : ℕ) (x : StepSize) → x.mantissa ≡ 0 → x.exponent ≡ 0 → Stepped s n d p 0 p (replicate 97 x)
stepped_none s n d p x m e =
    record {
      run = run_none (fields (step_table s)) n d p;
      long = refl;
      room = refl;
      says = ap₂ (λ (a b : ℕ). replicate 97 (record { mantissa = a; exponent = b })) m e;
    }

pub stepped_more :
    (s : QuantizationStyle) (n : ℕ) (d : List ℕ) (p0 k p : ℕ) (steps next : List StepSize) (x : StepSize) (ws : List ℕ) (q : ℕ)
    → Stepped s n d p0 k p steps → k < n → meaning (fields (step_table s)) d p ≡ read ws q → MadeStep s x ws → next ≡ set steps k x
    → Stepped s n d p0 (k + 1) q next
stepped_more s n d p0 k p steps next x ws q r lt e m put =
    record {
      run = run_more (fields (step_table s)) n d p0 k p ws q r.run lt e;
      long = omega (arith, length-append r.run.vs ws, r.long, m.alone);
      room = rw (put, length-set) r.room;
      says =
          put
          ∙ ap (λ (l : List StepSize). set l k x) r.says
          ∙ ap (λ (j : ℕ). set (kept 97 s r.run.vs) j x) (sym r.long)
          ∙ ap (λ (y : StepSize). set (kept 97 s r.run.vs) (length r.run.vs) y) m.says
          ∙ kept_push 97 s r.run.vs (get_or ws 0 0)
          ∙ ap (λ (l : List ℕ). kept 97 s (r.run.vs ++ l)) (sym (alone_is ws m.alone));
    }

pub stepped_all :
    (s : QuantizationStyle) (n : ℕ) (d : List ℕ) (p0 k p : ℕ) (steps : List StepSize) → Stepped s n d p0 k p steps → n ≤ k → k ≤ n
    → (meaning (steps_layout s n) d p0 ≡ read (values_of (meaning (steps_layout s n) d p0)) p)
    × MadeSteps s n steps (values_of (meaning (steps_layout s n) d p0))
stepped_all s n d p0 k p steps r le ge =
    let e = run_all (fields (step_table s)) n d p0 k p r.run le in
    let m : k ≡ n = omega arith in (
      is_read _ _ _ e,
      record {
        many = ap (λ (R : Reading). length (values_of R)) e ∙ r.long ∙ m;
        says = r.says ∙ ap (λ (R : Reading). kept 97 s (values_of R)) (sym e);
      },
    )
