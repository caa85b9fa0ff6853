pub mod OrbitPlaceLaws
