use Rattle.std.proofs.Common.{◌≡◌, ◌/◌, List, ℕ, Option, length, replicate, ap, ◌∙◌, sym, arith, subst, is_some, unwrap_or}
use Rattle.ascon.specs.Aead.{begun, decrypted}
use Rattle.ascon.specs.Laws.{IsSealing}
use Rattle.ascon.proofs.StateLaws.{Fits}
use Rattle.ascon.proofs.OpenLaws.{sealed_from, opened-right, opened-wrong}
use Rattle.ascon.proofs.aead.Aead.open.Goals as goal

pub returns-then-not-has_tag : goal.returns-then-not-has_tag
returns-then-not-has_tag c =
    let t = c.args.text.now in
    let none = opened-wrong c.args.self.key.now c.args.self.nonce.now c.args.self.data.now t c.args.tag.now (cc) in
    record {
      test = sym (ap is_some none);
      bytes = c.fill.ensures.after (λ y e. e) ∙ (ap (λ m. replicate m 0) c.decrypt.auto.text ∙ sym (ap (λ (o : Option (List ℕ)). unwrap_or o (replicate (length t) 0)) none));
      only = λ u. let z : ⊥ = cc in absurd z;
    }

pub returns : goal.returns
returns c =
    let k = c.args.self.key.now in
    let n = c.args.self.nonce.now in
    let a = c.args.self.data.now in
    let t = c.args.text.now in
    let g = c.args.tag.now in
    let some = opened-right k n a t g (cc) in
    let text : c.decrypt.new.text ≡ decrypted (length t / 16) (begun k n a) t = cc in
    let fits : Fits c.begin.result = record { x0 = omega arith; x1 = omega arith; x2 = omega arith; x3 = omega arith; x4 = omega arith } in
    let P : List ℕ → Type 0 = λ x. IsSealing k n a x t g in
    record {
      test = sym (ap is_some some);
      bytes = text ∙ sym (ap (λ (o : Option (List ℕ)). unwrap_or o (replicate (length t) 0)) some);
      only = λ _. subst P (sym text) (sealed_from k n a c.begin.result c.begin.ensures fits t g c.are_bytes.ensures (cc));
    }
