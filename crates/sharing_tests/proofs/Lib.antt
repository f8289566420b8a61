mod Seals
