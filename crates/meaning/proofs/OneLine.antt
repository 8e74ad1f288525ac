-- An order with one line put in or taken out, and the channels of a list with one line more at its end.
use Prim.Native.Nat.{◌≤◌}
use mathlib.Core.Path.{◌≡◌, refl, sym, ◌∙◌, ap, subst}
use mathlib.Core.Logic.{◌⊎◌, inl, inr}
use mathlib.Core.List.{List, [], ◌∷◌, ◌++◌, append-nil, nil≢cons}
use Rattle.meaning.specs.Words.{Property, Line}
use Rattle.meaning.specs.Node.{ins, outs}
use Rattle.meaning.proofs.Lists.{All, done, also, all_head, all_append, all_left, all_right, all_map, all-ins, ins-append, outs-append}
use Rattle.meaning.proofs.Lists.{Ended, empty, ended, end_of, same_end, not_empty}
use Rattle.meaning.proofs.Pairs.{Bounds, May, Pairs, none, first, pairs_append, pairs_left, pairs_right, pairs_cross}
use Rattle.meaning.proofs.Channels.{IsIn, IsOut, In, Out, in_or_out, ins_cons, outs_skip, outs_cons, ins_skip, never_before}

module _ (p : Property) where
  -- a line put between
  pub pairs_insert : (u v : List Line) (y : Line) → Pairs p (u ++ v) → All (λ z. May p z y) u → All (May p y) v → Pairs p ((u ++ y ∷ []) ++ v)
  pairs_insert u v y c before after =
      pairs_append
      (pairs_append (pairs_left u v c) (first done none) (all_map (λ z h. also h done) before))
      (pairs_right u v c)
      (all_append (pairs_cross u v c) (also after done))

  -- a line taken out
  pub pairs_remove : (u v : List Line) (y : Line) → Pairs p ((u ++ y ∷ []) ++ v) → Pairs p (u ++ v)
  pairs_remove u v y c =
      pairs_append (pairs_left u (y ∷ []) (pairs_left (u ++ y ∷ []) v c)) (pairs_right (u ++ y ∷ []) v c)
      (all_left u (y ∷ []) (pairs_cross (u ++ y ∷ []) v c))

  pub pairs_before : (u v : List Line) (y : Line) → Pairs p ((u ++ y ∷ []) ++ v) → All (λ z. May p z y) u
  pairs_before u v y c = all_map (λ z h. all_head h) (pairs_cross u (y ∷ []) (pairs_left (u ++ y ∷ []) v c))

-- the channels of a list with one line more at its end
pub ins_last_in : (w : List Line) (z : Line) → In z → ins (w ++ z ∷ []) ≡ ins w ++ z ∷ []
ins_last_in w z h = ins-append w (z ∷ []) ∙ ap (λ (l : List Line). ins w ++ l) (ins_cons z [] h)

pub outs_last_in : (w : List Line) (z : Line) → In z → outs (w ++ z ∷ []) ≡ outs w
outs_last_in w z h = outs-append w (z ∷ []) ∙ ap (λ (l : List Line). outs w ++ l) (outs_skip z [] h) ∙ append-nil (outs w)

pub outs-last-out : (w : List Line) (z : Line) → Out z → outs (w ++ z ∷ []) ≡ outs w ++ z ∷ []
outs-last-out w z h = outs-append w (z ∷ []) ∙ ap (λ (l : List Line). outs w ++ l) (outs_cons z [] h)

pub ins-last-out : (w : List Line) (z : Line) → Out z → ins (w ++ z ∷ []) ≡ ins w
ins-last-out w z h = ins-append w (z ∷ []) ∙ ap (λ (l : List Line). ins w ++ l) (ins_skip z [] h) ∙ append-nil (ins w)

pub empty_channels : (u : List Line) → ins u ≡ [] → outs u ≡ [] → u ≡ []
empty_channels [] i o = refl
empty_channels (l ∷ u) i o = go (in_or_out l.action)
  where
    go : IsIn l.action ⊎ IsOut l.action → l ∷ u ≡ []
    go (inl h) = absurd (nil≢cons (sym i ∙ ins_cons l u h))
    go (inr h) = absurd (nil≢cons (sym o ∙ outs_cons l u h))

-- The last input of an order comes last in it, where no output is stamped later.
pub record EndsWith (x : Line) (behind u : List Line) : Type 0 where
  pub before : List Line
  pub stands : u ≡ before ++ x ∷ []
  pub ins_are : ins before ≡ behind
  pub outs_are : outs before ≡ outs u

pub input_last : {p : Property} → Bounds p → (x : Line) → In x → (behind u : List Line) → All (λ (z : Line). z.stamp ≤ x.stamp) (outs u)
    → ins u ≡ behind ++ x ∷ [] → Pairs p u → EndsWith x behind u
input_last {p} b x i behind u low e c = go (end_of u) low e c
  where
    go : {u : List Line} → Ended u → All (λ (z : Line). z.stamp ≤ x.stamp) (outs u) → ins u ≡ behind ++ x ∷ [] → Pairs p u → EndsWith x behind u
    go empty low e c = absurd (not_empty behind x e)
    go (ended v z) low e c = pick (in_or_out z.action)
      where
        pick : IsIn z.action ⊎ IsOut z.action → EndsWith x behind (v ++ z ∷ [])
        pick (inl h) =
            let q : (ins v ≡ behind) × (z ≡ x) = same_end (ins v) behind z x (sym (ins_last_in v z h) ∙ e) in
            record { before = v; stands = ap (λ (l : Line). v ++ l ∷ []) q.1; ins_are = q.0; outs_are = sym (outs_last_in v z h) }
        pick (inr h) =
            let may : All (λ l. May p l z) (behind ++ x ∷ []) =
            subst (All (λ l. May p l z)) (sym (ins-last-out v z h) ∙ e) (all-ins (all_map (λ l k. all_head k) (pairs_cross v (z ∷ []) c))) in
            absurd
            (never_before p b x z i h
            (all_head (all_right (outs v) (z ∷ []) (subst (All (λ (l : Line). l.stamp ≤ x.stamp)) (outs-last-out v z h) low)))
            (all_head (all_right behind (x ∷ []) may)))
