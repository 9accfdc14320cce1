use Rattle.std.proofs.Common.{◌≡◌, List, ℕ, ap, ◌∙◌, arith}
use Rattle.ascon.specs.Aead.{ciphertext, tag, opened}
use Rattle.ascon.proofs.StateLaws.{Fits}
use Rattle.ascon.proofs.OpenLaws.{opens_from}
use Rattle.ascon.proofs.aead.Aead.seal.Goals as goal

pub returns : goal.returns
unfolding ciphertext tag
returns c =
    let k = c.args.self.key.now in
    let n = c.args.self.nonce.now in
    let a = c.args.self.data.now in
    let t = c.args.text.now in
    let fits : Fits c.begin.result = record { x0 = omega arith; x1 = omega arith; x2 = omega arith; x3 = omega arith; x4 = omega arith } in
    let text : c.encrypt.new.text ≡ ciphertext k n a t = cc in
    let mark : c.finalize.result ≡ tag k n a t = cc in
    let whole = opens_from k n a c.begin.result c.begin.ensures fits t c.are_bytes.ensures in
    record {
      bytes = text;
      tag = mark;
      opens = ap (λ (x : List ℕ). opened k n a x c.finalize.result) text ∙ (ap (opened k n a (ciphertext k n a t)) mark ∙ whole);
    }
