-- Tokens in code are told apart as those of the definitions are, and lists of events as their tokens are.
use Rattle.std.specs.Prelude.{IsTrue, ◌↔◌, map}
use Rattle.std.proofs.Common.{◌≡◌, refl, sym, ap, ap₂, ◌∙◌, ℕ, List, [], ◌∷◌, Bool, Option}
use Rattle.es_steps.specs.Values as of
use Rattle.es_steps.specs.Events as of_event
use Rattle.es_steps.specs.Events.{Event, Events, none, then, Held}
use Rattle.es_codes.specs.Stored.{constant_in}
use Rattle.es_evaluation.specs.Flat as flat
use Rattle.es_evaluation.specs.Flat.{flat, flat_event, tokens}
use Rattle.es_codes.specs.View.{referent_of, home_of, test_of, detail_of, details_of, operation_of, place_of, token_of, tokens_of}
use Rattle.es_codes.specs.declared.event.Home.{Home}
use Rattle.es_codes.specs.declared.event.PrivateTest.{PrivateTest}
use Rattle.es_codes.specs.declared.event.Detail.{Detail}
use Rattle.es_codes.specs.declared.event.Operation.{Operation}
use Rattle.es_codes.specs.declared.event.Place.{Place}
use Rattle.es_codes.specs.declared.event.Token.{Token}
use Rattle.es_codes.specs.declared.name.Referent.{Referent}
use Rattle.es_codes.proofs.Keys.{constant_in-of}

abbrev referent_in : of.Referent → Referent
referent_in (of.Bound b) = Referent.Bound b
referent_in (of.Free s) = Referent.Free s

referent_in-of : (r : Referent) → referent_in (referent_of r) ≡ r
referent_in-of (Referent.Bound b) = refl
referent_in-of (Referent.Free s) = refl

abbrev home_in : of.Home → Home
home_in (of.OfClass n) = Home.OfClass n
home_in (of.OfPrototype n) = Home.OfPrototype n
home_in (of.OfObject m) = Home.OfObject m

home_in-of : (h : Home) → home_in (home_of h) ≡ h
home_in-of (Home.OfClass n) = refl
home_in-of (Home.OfPrototype n) = refl
home_in-of (Home.OfObject m) = refl

abbrev test_in : of.PrivateTest → PrivateTest
test_in (of.HasField d) = PrivateTest.HasField d
test_in (of.HasBrand n) = PrivateTest.HasBrand n
test_in (of.IsClass n) = PrivateTest.IsClass n

test_in-of : (t : PrivateTest) → test_in (test_of t) ≡ t
test_in-of (PrivateTest.HasField d) = refl
test_in-of (PrivateTest.HasBrand n) = refl
test_in-of (PrivateTest.IsClass n) = refl

abbrev detail_in : of_event.Detail → Detail
detail_in of_event.Operand = Detail.Operand
detail_in of_event.Empty = Detail.Empty
detail_in (of_event.Spelled s) = Detail.Spelled s
detail_in (of_event.Flag b) = Detail.Flag b
detail_in (of_event.Key k) = Detail.Key (constant_in k)
detail_in of_event.Opens = Detail.Opens
detail_in of_event.Closes = Detail.Closes
detail_in of_event.Prototype = Detail.Prototype
detail_in (of_event.Index i) = Detail.Index i
detail_in of_event.Rest = Detail.Rest

detail_in-of : (d : Detail) → detail_in (detail_of d) ≡ d
detail_in-of Detail.Operand = refl
detail_in-of Detail.Empty = refl
detail_in-of (Detail.Spelled s) = refl
detail_in-of (Detail.Flag b) = refl
detail_in-of (Detail.Key k) = ap Detail.Key (constant_in-of k)
detail_in-of Detail.Opens = refl
detail_in-of Detail.Closes = refl
detail_in-of Detail.Prototype = refl
detail_in-of (Detail.Index i) = refl
detail_in-of Detail.Rest = refl

details_in-of : (ds : List Detail) → map detail_in (details_of ds) ≡ ds
details_in-of [] = refl
details_in-of (d ∷ ds) = ap₂ (λ (x : Detail) (xs : List Detail). x ∷ xs) (detail_in-of d) (details_in-of ds)

abbrev operation_in : of_event.Operation → Operation
operation_in (of_event.OfKind kind ds) = Operation.OfKind kind (map detail_in ds)
operation_in of_event.Delete = Operation.Delete
operation_in (of_event.Take ds) = Operation.Take (map detail_in ds)

operation_in-of : (op : Operation) → operation_in (operation_of op) ≡ op
operation_in-of (Operation.OfKind kind ds) = ap (Operation.OfKind kind) (details_in-of ds)
operation_in-of Operation.Delete = refl
operation_in-of (Operation.Take ds) = ap Operation.Take (details_in-of ds)

abbrev place_in : of_event.Place → Place
place_in (of_event.RightOf s) = Place.RightOf s
place_in of_event.Default = Place.Default
place_in (of_event.Part i) = Place.Part i

place_in-of : (p : Place) → place_in (place_of p) ≡ p
place_in-of (Place.RightOf s) = refl
place_in-of Place.Default = refl
place_in-of (Place.Part i) = refl

abbrev event_in : Event → Token
event_in (of_event.ReadName m r) = Token.ReadName m (referent_in r)
event_in (of_event.SetName r v) = Token.SetName (referent_in r) v
event_in (of_event.Get m o k) = Token.Get m o k
event_in (of_event.Set o k v) = Token.Set o k v
event_in (of_event.Define o k v) = Token.Define o k v
event_in (of_event.Call m f r vs) = Token.Call m f r vs
event_in (of_event.Construct m f vs) = Token.Construct m f vs
event_in (of_event.Operate m op vs) = Token.Operate m (operation_in op) vs
event_in (of_event.Update m s v) = Token.Update m s v
event_in (of_event.PrivateGet m d o) = Token.PrivateGet m d o
event_in (of_event.PrivateSet d o v) = Token.PrivateSet d o v
event_in (of_event.PrivateInitialize d o v) = Token.PrivateInitialize d o v
event_in (of_event.PrivateIn m t o) = Token.PrivateIn m (test_in t) o
event_in (of_event.AddBrand n o) = Token.AddBrand n o
event_in (of_event.SuperGet m h k t) = Token.SuperGet m (home_in h) k t
event_in (of_event.SuperSet h k v t) = Token.SuperSet (home_in h) k v t
event_in (of_event.SuperCall m n vs) = Token.SuperCall m n vs
event_in (of_event.SuperCallWithAll n) = Token.SuperCallWithAll n
event_in of_event.EnterBody = Token.EnterBody
event_in (of_event.InitializeClass n) = Token.InitializeClass n
event_in of_event.Throw = Token.Throw
event_in (of_event.Short v) = Token.Short v
event_in (Held m p t l v) = Token.Throw

abbrev token_in : flat.Token → Token
token_in (flat.single e) = event_in e
token_in flat.begin = Token.Begin
token_in (flat.ends m p t v) = Token.End m (place_in p) t v

token_in-of : (t : Token) → token_in (token_of t) ≡ t
token_in-of (Token.ReadName m r) = ap (λ (z : Referent). Token.ReadName m z) (referent_in-of r)
token_in-of (Token.SetName r v) = ap (λ (z : Referent). Token.SetName z v) (referent_in-of r)
token_in-of (Token.Get m o k) = refl
token_in-of (Token.Set o k v) = refl
token_in-of (Token.Define o k v) = refl
token_in-of (Token.Call m f r vs) = refl
token_in-of (Token.Construct m f vs) = refl
token_in-of (Token.Operate m op vs) = ap (λ (z : Operation). Token.Operate m z vs) (operation_in-of op)
token_in-of (Token.Update m s v) = refl
token_in-of (Token.PrivateGet m d o) = refl
token_in-of (Token.PrivateSet d o v) = refl
token_in-of (Token.PrivateInitialize d o v) = refl
token_in-of (Token.PrivateIn m t o) = ap (λ (z : PrivateTest). Token.PrivateIn m z o) (test_in-of t)
token_in-of (Token.AddBrand n o) = refl
token_in-of (Token.SuperGet m h k t) = ap (λ (z : Home). Token.SuperGet m z k t) (home_in-of h)
token_in-of (Token.SuperSet h k v t) = ap (λ (z : Home). Token.SuperSet z k v t) (home_in-of h)
token_in-of (Token.SuperCall m n vs) = refl
token_in-of (Token.SuperCallWithAll n) = refl
token_in-of Token.EnterBody = refl
token_in-of (Token.InitializeClass n) = refl
token_in-of Token.Throw = refl
token_in-of (Token.Short v) = refl
token_in-of Token.Begin = refl
token_in-of (Token.End m p t v) = ap (λ (z : Place). Token.End m z t v) (place_in-of p)

tokens_in-of : (ts : List Token) → map token_in (tokens_of ts) ≡ ts
tokens_in-of [] = refl
tokens_in-of (t ∷ ts) = ap₂ (λ (x : Token) (xs : List Token). x ∷ xs) (token_in-of t) (tokens_in-of ts)

-- ---- lists of events, read from the end of their tokens

-- a list, and, inside a part, what stands at the end of the part and what is behind it
data Stack : Type 0 where
  bottom : (l : Events) → Stack
  level : (l : Events) (m : ℕ) (p : of_event.Place) (t : Option of.Value) (v : of.Value) (below : Stack) → Stack

abbrev put : Event → Stack → Stack
put e (bottom l) = bottom (then e l)
put e (level l m p t v below) = level (then e l) m p t v below

abbrev pop : Stack → Stack
pop (bottom l) = bottom l
pop (level l m p t v below) = put (Held m p t l v) below

abbrev parsed : List flat.Token → Stack
parsed [] = bottom none
parsed (flat.single e ∷ ts) = put e (parsed ts)
parsed (flat.begin ∷ ts) = pop (parsed ts)
parsed (flat.ends m p t v ∷ ts) = level none m p t v (parsed ts)

abbrev put_all : Events → Stack → Stack
put_all none s = s
put_all (then e es) s = put e (put_all es s)

put_all-level : (l : Events) (m : ℕ) (p : of_event.Place) (t : Option of.Value) (v : of.Value) (s : Stack) → put_all l (level none m p t v s) ≡ level l m p t v s
put_all-level none m p t v s = refl
put_all-level (then e es) m p t v s = ap (put e) (put_all-level es m p t v s)

put_all-bottom : (l : Events) → put_all l (bottom none) ≡ bottom l
put_all-bottom none = refl
put_all-bottom (then e es) = ap (put e) (put_all-bottom es)

mutual
  parsed-event : (e : Event) (ts : List flat.Token) → parsed (flat_event e ts) ≡ put e (parsed ts)
  parsed-event (of_event.ReadName m r) ts = refl
  parsed-event (of_event.SetName r v) ts = refl
  parsed-event (of_event.Get m o k) ts = refl
  parsed-event (of_event.Set o k v) ts = refl
  parsed-event (of_event.Define o k v) ts = refl
  parsed-event (of_event.Call m f r vs) ts = refl
  parsed-event (of_event.Construct m f vs) ts = refl
  parsed-event (of_event.Operate m op vs) ts = refl
  parsed-event (of_event.Update m s v) ts = refl
  parsed-event (of_event.PrivateGet m d o) ts = refl
  parsed-event (of_event.PrivateSet d o v) ts = refl
  parsed-event (of_event.PrivateInitialize d o v) ts = refl
  parsed-event (of_event.PrivateIn m t o) ts = refl
  parsed-event (of_event.AddBrand n o) ts = refl
  parsed-event (of_event.SuperGet m h k t) ts = refl
  parsed-event (of_event.SuperSet h k v t) ts = refl
  parsed-event (of_event.SuperCall m n vs) ts = refl
  parsed-event (of_event.SuperCallWithAll n) ts = refl
  parsed-event of_event.EnterBody ts = refl
  parsed-event (of_event.InitializeClass n) ts = refl
  parsed-event of_event.Throw ts = refl
  parsed-event (of_event.Short v) ts = refl
  parsed-event (Held m p t l v) ts = ap pop (parsed-events l (flat.ends m p t v ∷ ts) ∙ put_all-level l m p t v (parsed ts))

  parsed-events : (l : Events) (ts : List flat.Token) → parsed (flat l ts) ≡ put_all l (parsed ts)
  parsed-events none ts = refl
  parsed-events (then e es) ts = parsed-event e (flat es ts) ∙ ap (put e) (parsed-events es ts)

abbrev list_in : Stack → Events
list_in (bottom l) = l
list_in (level l m p t v below) = l

events_in : (l : Events) → list_in (parsed (tokens l)) ≡ l
events_in l = ap list_in (parsed-events l [] ∙ put_all-bottom l)

-- equal tokens in code are those of equal lists, and the other way round
pub same_lists : (b : Bool) (xs ys : List Token) → (IsTrue b ↔ (xs ≡ ys)) → (l k : Events) → tokens_of xs ≡ tokens l → tokens_of ys ≡ tokens k → IsTrue b ↔ (l ≡ k)
same_lists b xs ys same l k h j = (
  (λ t. sym (events_in l) ∙ ap (λ ts. list_in (parsed ts)) (sym h ∙ ap tokens_of (same.0 t) ∙ j) ∙ events_in k),
  (λ e. same.1 (sym (tokens_in-of xs) ∙ ap (map token_in) (h ∙ ap tokens e ∙ sym j) ∙ tokens_in-of ys)),
)
